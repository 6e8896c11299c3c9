-- A transform over new dimensions: what it is built of, and what it gives.
use Rattle.std.proofs.Common.{◌≡◌, ◌≢◌, ◌∙◌, zero, suc, ℕ, ◌+◌, ◌<◌, ◌≤ℤ◌, Bool, true, false, cond, not, List, [], ◌∷◌, length, map, get_or, refl, ap, arith, ℤ, pos, None, Result, Ok, Err}
use Rattle.std.specs.Ordering.{int_eq}
use Rattle.std.specs.List.{list_all, position_from}
use Rattle.index_intervals.specs.Bounds.{Bounds}
use Rattle.transform_composition.specs.declared.Domain.{Domain}
use Rattle.transform_composition.specs.declared.error.ComposeError.{ComposeError}
use Rattle.transform_composition.specs.declared.error.ComposeError.TheVariants.{Rank, Overflow, Outside, TooLarge, Memory}
use Rattle.transform_composition.specs.declared.TransformError.{TransformError}
use Rattle.transform_composition.specs.declared.OutMap.{OutMap}
use Rattle.transform_composition.specs.declared.OutMap.TheVariants.{Constant, Strided, Indexed}
use Rattle.transform_composition.specs.Maps.{is_map, is_plain, plain_map}
use Rattle.transform_composition.specs.Reading.{point}
use Rattle.transform_composition.specs.Transforms.{DomainAndMaps, checked, first_bad_map, KeepsRules}
use Rattle.transform_composition.specs.Tightening.{tighten_answer}
use Rattle.transform_composition.specs.Composing.{composed, over_tightened}
use Rattle.transform_composition.specs.Agreeing.{Agrees, GoesInto}
use Rattle.transform_composition.specs.Walks.{IsCell}
use Rattle.dim_changes.specs.Causes.{or_cause, over, IsFaultOf, fault_of, Follows, ReachesInto}
use Rattle.cells.proofs.Laws.{both}

-- where all pass, none is the first to fail
position_from-all : {X : Type 0} (p : X → Bool) (i : ℕ) (xs : List X) → list_all p xs ≡ true → position_from (λ x. not (p x)) i xs ≡ None
position_from-all p i [] e = refl
position_from-all p i (x ∷ xs) e =
    let q = both (p x) (list_all p xs) e in
    rw q.0 (position_from-all p (i + 1) xs q.1)

-- maps without strides of 0 stay
plain_map-same : (m : OutMap) → is_plain m ≡ true → plain_map m ≡ m
plain_map-same (Constant offset) e = refl
plain_map-same (Strided offset stride dim) e = told (int_eq stride (pos 0)) e
  where
    told : (t : Bool) → not t ≡ true → cond t (Constant offset) (Strided offset stride dim) ≡ Strided offset stride dim
    told true f = cc
    told false f = refl
plain_map-same (Indexed offset stride sizes entries) e = told (int_eq stride (pos 0)) e
  where
    told : (t : Bool) → not t ≡ true → cond t (Constant offset) (Indexed offset stride sizes entries) ≡ Indexed offset stride sizes entries
    told true f = cc
    told false f = refl

map-plain_map-same : (ms : List OutMap) → list_all is_plain ms ≡ true → map plain_map ms ≡ ms
map-plain_map-same [] e = refl
map-plain_map-same (m ∷ ms) e =
    let q = both (is_plain m) (list_all is_plain ms) e in
    ap (λ (x : OutMap). x ∷ map plain_map ms) (plain_map-same m q.0) ∙ ap (λ (xs : List OutMap). m ∷ xs) (map-plain_map-same ms q.1)

-- a transform is accepted as it is
pub checked-IsTransform : (domain : Domain) (maps : List OutMap) → KeepsRules (record { domain = domain; maps = maps })
    → checked domain maps ≡ Ok (record { domain = domain; maps = maps })
checked-IsTransform domain maps t =
    let r = t.ranks in
    let l = t.labels in
    let none : first_bad_map domain maps ≡ None = position_from-all (is_map domain.dims) 0 maps t.maps in
    let same = map-plain_map-same maps t.plain in
    rw (r, l, none, same) refl

-- the index along a dimension of a cell lies between its bounds
pub between : (dims : List Bounds) (index : List ℤ) (dim : ℕ) → IsCell dims index → dim < length dims
    → ((get_or dims dim point).lo ≤ℤ get_or index dim (pos 0)) × (get_or index dim (pos 0) ≤ℤ (get_or dims dim point).hi)
between [] index dim c h = absurd (omega (arith, h))
between (d ∷ dims) [] dim c h = absurd c
between (d ∷ dims) (x ∷ index) zero c h = (c.0, c.1)
between (d ∷ dims) (x ∷ index) (suc dim) c h = between dims index dim c.2 (omega (arith, h))

pub length-IsCell : (dims : List Bounds) (index : List ℤ) → IsCell dims index → length index ≡ length dims
length-IsCell [] [] c = refl
length-IsCell [] (x ∷ index) c = absurd c
length-IsCell (d ∷ dims) [] c = absurd c
length-IsCell (d ∷ dims) (x ∷ index) c = let e = length-IsCell dims index c.2 in omega (arith, e)

-- a composition follows its inner transform
pub Follows-Agrees : (t outer inner : DomainAndMaps) → Agrees t outer inner → GoesInto t.domain.dims inner outer.domain.dims
    → ReachesInto t.domain.dims inner outer.domain.dims → Follows t outer inner
Follows-Agrees t outer inner a g r = record {
  values = λ index c. a index (length-IsCell t.domain.dims index c) (λ dim h _. between t.domain.dims index dim c h);
  inside = g;
  reached = r;
}

-- a refused composition has its fault
pub IsFaultOf-refused : (answer : Result DomainAndMaps ComposeError) (e : ComposeError) → (e ≢ Memory → answer ≡ Err e) → IsFaultOf (or_cause answer) (fault_of e)
IsFaultOf-refused answer Rank h = ap or_cause (h (λ p. cc))
IsFaultOf-refused answer (Overflow output) h = ap or_cause (h (λ p. cc))
IsFaultOf-refused answer (Outside output) h = ap or_cause (h (λ p. cc))
IsFaultOf-refused answer (TooLarge output) h = ap or_cause (h (λ p. cc))
IsFaultOf-refused answer Memory h = tt

-- over an inner transform that tightening gives, the composition is the answer of the step
pub over-tight : (u built inner : DomainAndMaps) → tighten_answer built u.domain ≡ Ok inner → or_cause (composed u built) ≡ over u inner
over-tight u built inner e = ap (λ (r : Result DomainAndMaps ComposeError). or_cause (over_tightened u r)) e

-- what is made of a domain and maps is made of just these
pub made-same : (domain : Domain) (maps : List OutMap) (made : DomainAndMaps) → KeepsRules (record { domain = domain; maps = maps })
    → Ok made ≡ checked domain maps → made ≡ record { domain = domain; maps = maps }
made-same domain maps made t e = let f = e ∙ checked-IsTransform domain maps t in cc

-- and never refused
pub made-Err : (domain : Domain) (maps : List OutMap) (e : TransformError) → KeepsRules (record { domain = domain; maps = maps })
    → Err e ≡ checked domain maps → ⊥
made-Err domain maps e t f = let g = f ∙ checked-IsTransform domain maps t in cc

-- where what is built is a view that tightening leaves, the composition is the step's answer
pub over-built : (u built view : DomainAndMaps) → built ≡ view → tighten_answer view u.domain ≡ Ok view → or_cause (composed u built) ≡ over u view
over-built u built view e t = ap (λ (b : DomainAndMaps). or_cause (composed u b)) e ∙ over-tight u view view t

-- what has the domain and the maps of a view is the view
pub made-of : (view : DomainAndMaps) (domain : Domain) (maps : List OutMap) → domain ≡ view.domain → maps ≡ view.maps
    → (let built : DomainAndMaps = record { domain = domain; maps = maps } in built) ≡ view
made-of view domain maps d m =
    ap (λ (x : Domain). let built : DomainAndMaps = record { domain = x; maps = maps } in built) d
    ∙ ap (λ (x : List OutMap). let built : DomainAndMaps = record { domain = view.domain; maps = x } in built) m
