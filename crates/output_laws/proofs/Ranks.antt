-- A transform seen through another one has at most 32 dimensions, each with a label, where the other has.
use Rattle.std.proofs.Common.{◌≡◌, ◌∙◌, ◌≤◌, ℕ, ◌+◌, ◌==◌, Bool, true, false, cond, List, [], ◌∷◌, length, map, Option, Some, None, Result, Ok, Err, sym, ap, subst, refl, arith}
use Rattle.std.specs.Prelude.{not}
use Rattle.index_intervals.specs.Bounds.{Bounds}
use Rattle.index_transform.specs.Transforms.{DomainAndMaps}
use Rattle.index_transform.specs.declared.map.OutMap.{OutMap}
use Rattle.transform_composition.specs.Composing.{closed_dims, composed_map, joined, unless_large, unless_passed, joined_answer, over_tightened, composed}
use Rattle.transform_composition.specs.Tightening.{tight_dims, unless_overflow_by, unless_outside_by, tightened, on_result, tighten_answer}
use Rattle.transform_composition.specs.declared.error.ComposeError.{ComposeError}

-- at most 32 dimensions, each with a label
pub record HasRank (t : DomainAndMaps) : Type 0 where
  pub few : length t.domain.dims ≤ 32
  pub labels : length t.domain.labels ≡ length t.domain.dims

closed_count : (k : ℕ) (dims : List Bounds) (maps : List OutMap) → length (closed_dims k dims maps) ≡ length dims
closed_count k [] maps = refl
closed_count k (d ∷ dims) maps = let rest = closed_count (k + 1) dims maps in omega (arith, rest)

from_large : (o : Option ℕ) (j t : DomainAndMaps) → unless_large o j ≡ Ok t → j ≡ t
from_large None j t e = cc
from_large (Some k) j t e = absurd (cc)

from_passed : (o : Option ℕ) (answer : Result DomainAndMaps ComposeError) (t : DomainAndMaps) → unless_passed o answer ≡ Ok t → answer ≡ Ok t
from_passed None answer t e = e
from_passed (Some k) answer t e = absurd (cc)

-- a composition has the rank of the inner transform
pub joined_rank : (u v t : DomainAndMaps) → HasRank v → joined_answer u v ≡ Ok t → HasRank t
joined_rank u v t has is =
    let count = closed_count 0 v.domain.dims (map (composed_map u.domain.dims v.domain.dims v.maps) u.maps) in
    subst HasRank (from_large _ (joined u v) t (from_passed _ _ t is)) (record { few = omega (arith, count, has.few); labels = omega (arith, count, has.labels) })

tight_count : (k : ℕ) (inners outers : List Bounds) (maps : List OutMap) → length (tight_dims k inners outers maps) ≡ length inners
tight_count k [] outers maps = refl
tight_count k (d ∷ inners) outers maps = let rest = tight_count (k + 1) inners outers maps in omega (arith, rest)

inside_count : (o : Option ℕ) (inners dims : List Bounds) → unless_outside_by o inners ≡ Ok dims → inners ≡ dims
inside_count None inners dims e = cc
inside_count (Some k) inners dims e = absurd (cc)

flow_count : (o p : Option ℕ) (inners dims : List Bounds) → unless_overflow_by o (unless_outside_by p inners) ≡ Ok dims → inners ≡ dims
flow_count None p inners dims e = inside_count p inners dims e
flow_count (Some k) p inners dims e = absurd (cc)

unless_so : (test : Bool) (c : ComposeError) (r : Result (List Bounds) ComposeError) (dims : List Bounds) → cond test (Err c) r ≡ Ok dims → r ≡ Ok dims
unless_so true c r dims e = absurd (cc)
unless_so false c r dims e = e

tightened_count : (inners outers : List Bounds) (maps : List OutMap) (dims : List Bounds) → tightened inners outers maps ≡ Ok dims → length dims ≡ length inners
tightened_count inners outers maps dims e =
    ap length (sym (flow_count _ _ (tight_dims 0 inners outers maps) dims (unless_so (not (length maps == length outers)) _ _ dims e))) ∙ tight_count 0 inners outers maps

tight_rank : (inner outer t : DomainAndMaps) → HasRank inner → tighten_answer inner outer.domain ≡ Ok t → HasRank t
tight_rank inner outer t has e = by (tightened inner.domain.dims outer.domain.dims inner.maps) refl e
  where
    by : (r : Result (List Bounds) ComposeError) → tightened inner.domain.dims outer.domain.dims inner.maps ≡ r → on_result inner r ≡ Ok t → HasRank t
    by (Ok dims) is given =
        let count = tightened_count inner.domain.dims outer.domain.dims inner.maps dims is in
        let same : record { domain = record { dims = dims; labels = inner.domain.labels }; maps = inner.maps } ≡ t = cc in
        subst HasRank same (record { few = omega (arith, count, has.few); labels = omega (arith, count, has.labels) })
    by (Err c) is given = absurd (cc)

pub composed_rank : (outer inner t : DomainAndMaps) → HasRank inner → composed outer inner ≡ Ok t → HasRank t
composed_rank outer inner t has e = by (tighten_answer inner outer.domain) refl e
  where
    by : (r : Result DomainAndMaps ComposeError) → tighten_answer inner outer.domain ≡ r → over_tightened outer r ≡ Ok t → HasRank t
    by (Ok tight) is given = joined_rank outer tight t (tight_rank inner outer tight has is) given
    by (Err c) is given = absurd (cc)
