-- Steps leave at most 32 dimensions, each with a label.
use Rattle.std.proofs.Common.{◌≡◌, ◌∙◌, ℕ, zero, suc, ◌+◌, ◌<◌, ◌≤◌, ◌==◌, ◌&&◌, nat_le, leb-true, ℤ, pos, Bool, true, false, cond, List, [], ◌∷◌, ◌++◌, length, map, Option, Some, None, option_map, option_and_then, Result, Ok, Err, refl, sym, ap, subst, arith, length-append, unsigned_abs}
use Rattle.std.specs.Prelude.{not, is_none, nat_eq, int_le, int_lt}
use Rattle.std.specs.List.{AllByRecursion, position_from, range_with_len}
use Rattle.std.specs.Cmp.Lexicographic.{pointwise}
use Rattle.std.proofs.lemmas.Bool.{and_parts}
use Rattle.std.proofs.lemmas.Bool.Decides.{nat_tests}
use Rattle.std.proofs.lemmas.Int.{ints}
use Rattle.std.proofs.lemmas.List.{length-map}
use Rattle.json_forms.specs.Lists.{all_of}
use Rattle.index_intervals.specs.Bounds.{Bounds}
use Rattle.index_transform.specs.Transforms.{DomainAndMaps}
use Rattle.index_transform.specs.declared.map.OutMap.{OutMap}
use Rattle.transform_composition.specs.Composing.{joined_answer}
use Rattle.transform_composition.specs.declared.error.ComposeError.{ComposeError}
use Rattle.step_forms.specs.Selection.{from_end, dim_numbered, dim_of_label, all_before, range_start, range_stop, selected_by, selected_by_all, positions_of, where_known, selected_of}
use Rattle.step_forms.specs.Steps.{is_newaxis}
use Rattle.step_forms.specs.declared.act.Act.{Act}
use Rattle.step_forms.specs.declared.act.Act.TheVariants as act
use Rattle.step_forms.specs.declared.act.Select.{Select}
use Rattle.step_forms.specs.declared.act.Select.TheVariants as select
use Rattle.step_forms.specs.declared.act.Step.{Step}
use Rattle.step_forms.specs.declared.selection.SelectError.{SelectError}
use Rattle.dim_changes.specs.Causes.{unless_refused, or_cause, over}
use Rattle.dim_changes.specs.CutViews.{cut_answer, cut_view}
use Rattle.dim_changes.specs.Dims.{position_of, spot_in, others, dim_at, label_at}
use Rattle.dim_changes.specs.Marks.{with_labels, new_labels, only_labels, with_marks}
use Rattle.dim_changes.specs.declared.cause.Cause.{Cause}
use Rattle.dim_changes.specs.declared.cause.Cause.TheVariants.{Count, Rank, Label}
use Rattle.dim_changes.proofs.Laws.{range-length, rest_few, rest_fewer}
use Rattle.dim_expressions.specs.Answers.{step_answer}
use Rattle.dim_expressions.specs.Applying.{numbered, answer_on, after_step, applied_from, applied}
use Rattle.dim_expressions.specs.At.{at_view}
use Rattle.dim_expressions.specs.Diagonal.{diagonal_view}
use Rattle.dim_expressions.specs.Left.{rank_of, without}
use Rattle.dim_expressions.specs.Newaxis.{newaxis_view}
use Rattle.dim_expressions.specs.Oindex.{oindex_view}
use Rattle.dim_expressions.specs.Transpose.{to_targets, transpose_view}
use Rattle.dim_expressions.specs.Vindex.{vindex_view, are_joined}
use Rattle.dim_expressions.specs.declared.error.ApplyError.{ApplyError}
use Rattle.output_laws.proofs.Ranks.{HasRank, joined_rank}

-- what it gives is such
pub record Gives {E : Type 0} (r : Result DomainAndMaps E) : Type 0 where
  pub each : (t : DomainAndMaps) → r ≡ Ok t → HasRank t

refused : {E : Type 0} (e : E) → Gives (Err e)
refused e = record { each = λ t is. absurd (cc) }

one : {E : Type 0} (v : DomainAndMaps) → HasRank v → Gives {E = E} (Ok v)
one v has = record { each = λ t is. let e : v ≡ t = cc in subst HasRank e has }

either : {E : Type 0} (test : Bool) (a b : Result DomainAndMaps E) → Gives a → Gives b → Gives (cond test a b)
either true a b x y = x
either false a b x y = y

unless_gives : (o : Option Cause) (r : Result DomainAndMaps Cause) → Gives r → Gives (unless_refused o r)
unless_gives None r g = g
unless_gives (Some c) r g = refused c

over_gives : (u v : DomainAndMaps) → HasRank v → Gives (over u v)
over_gives u v has = by (joined_answer u v) refl
  where
    by : (r : Result DomainAndMaps ComposeError) → joined_answer u v ≡ r → Gives (or_cause r)
    by (Ok t) is = one t (joined_rank u v t has is)
    by (Err e) is = refused _

-- ---- which dimensions a step selects

abbrev pub AreBelow : ℕ → List ℕ → Type 0
AreBelow rank dims = AllByRecursion (λ d. d < rank) dims

wider : (n m : ℕ) (dims : List ℕ) → n ≤ m → AreBelow n dims → AreBelow m dims
wider n m [] more all = tt
wider n m (d ∷ dims) more all = (omega (arith, more, all.0), wider n m dims more all.1)

range_below : (first n : ℕ) → AreBelow (first + n) (range_with_len first n)
range_below first zero = tt
range_below first (suc n) = (omega arith, wider (first + 1 + n) (first + suc n) (range_with_len (first + 1) n) (omega arith) (range_below (first + 1) n))

with_below : (rank : ℕ) (xs ys : List ℕ) → AreBelow rank xs → AreBelow rank ys → AreBelow rank (xs ++ ys)
with_below rank [] ys one other = other
with_below rank (x ∷ xs) ys one other = (one.0, with_below rank xs ys one.1 other)

numbered_below : (rank : ℕ) (x : ℤ) (d : ℕ) → dim_numbered rank x ≡ Some d → d < rank
numbered_below rank x d e = by (int_le (pos 0) x && int_lt x (pos rank)) refl e
  where
    by : (test : Bool) → (int_le (pos 0) x && int_lt x (pos rank)) ≡ test → cond test (Some (unsigned_abs x)) None ≡ Some d → d < rank
    by true is given =
        let parts = and_parts (int_le (pos 0) x) (int_lt x (pos rank)) is in
        let same : unsigned_abs x ≡ d = cc in
        let low = parts.0 in
        let high = parts.1 in
        grind (arith, ints, low, high, same)
    by false is given = absurd (cc)

position_below : {A : Type 0} (p : A → Bool) (k : ℕ) (xs : List A) (d : ℕ) → position_from p k xs ≡ Some d → d < k + length xs
position_below p k [] d e = absurd (cc)
position_below p k (x ∷ xs) d e = by (p x) (position_below p (k + 1) xs d) e
  where
    by : (test : Bool) → (position_from p (k + 1) xs ≡ Some d → d < k + 1 + length xs) → cond test (Some k) (position_from p (k + 1) xs) ≡ Some d → d < k + length (x ∷ xs)
    by true rest is = let same : k ≡ d = cc in omega (arith, same)
    by false rest is = let more = rest is in omega (arith, more)

one_below : (rank : ℕ) (o : Option ℕ) (dims : List ℕ) → ((d : ℕ) → o ≡ Some d → d < rank) → option_map (λ d. d ∷ []) o ≡ Some dims → AreBelow rank dims
one_below rank None dims each e = absurd (cc)
one_below rank (Some d) dims each e = let same : d ∷ [] ≡ dims = cc in subst (AreBelow rank) same (each d refl, tt)

all_below : (rank : ℕ) (xs : List ℤ) (dims : List ℕ) → all_of (dim_numbered rank) xs ≡ Some dims → AreBelow rank dims
all_below rank [] dims e = let same : [] ≡ dims = cc in subst (AreBelow rank) same tt
all_below rank (x ∷ xs) dims e = by (dim_numbered rank x) refl (all_of (dim_numbered rank) xs) (all_below rank xs) e
  where
    by : (o : Option ℕ) → dim_numbered rank x ≡ o → (p : Option (List ℕ)) → ((ds : List ℕ) → p ≡ Some ds → AreBelow rank ds) → option_and_then (λ y. option_map (λ ys. y ∷ ys) p) o ≡ Some dims → AreBelow rank dims
    by None is p rest given = absurd (cc)
    by (Some d) is None rest given = absurd (cc)
    by (Some d) is (Some ds) rest given = let same : d ∷ ds ≡ dims = cc in subst (AreBelow rank) same (numbered_below rank x d is, rest ds refl)

by_below : (rank : ℕ) (labels : List (List ℕ)) (selector : Select) (dims : List ℕ) → length labels ≡ rank → selected_by rank labels selector ≡ Some dims → AreBelow rank dims
by_below rank labels (select.Position number) dims same e = one_below rank (dim_numbered rank (from_end rank number)) dims (numbered_below rank (from_end rank number)) e
by_below rank labels (select.Label label) dims same e =
    one_below rank (dim_of_label labels label) dims
    (λ d is. let below = position_below (λ other. pointwise nat_eq other label) 0 labels d is in omega (arith, below, same)) e
by_below rank labels (select.Range start stop step) dims same e = all_below rank (all_before step (range_stop rank step stop) (range_start rank step start)) dims e

by_all_below : (rank : ℕ) (labels : List (List ℕ)) (selectors : List Select) (dims : List ℕ) → length labels ≡ rank → selected_by_all rank labels selectors ≡ Some dims → AreBelow rank dims
by_all_below rank labels [] dims same e = let none : [] ≡ dims = cc in subst (AreBelow rank) none tt
by_all_below rank labels (selector ∷ selectors) dims same e = by (selected_by rank labels selector) refl (selected_by_all rank labels selectors) (λ ds. by_all_below rank labels selectors ds same) e
  where
    by : (o : Option (List ℕ)) → selected_by rank labels selector ≡ o → (p : Option (List ℕ)) → ((ds : List ℕ) → p ≡ Some ds → AreBelow rank ds) → option_and_then (λ ds. option_map (λ more. ds ++ more) p) o ≡ Some dims → AreBelow rank dims
    by None is p rest given = absurd (cc)
    by (Some ds) is None rest given = absurd (cc)
    by (Some ds) is (Some more) rest given = let whole : ds ++ more ≡ dims = cc in subst (AreBelow rank) whole (with_below rank ds more (by_below rank labels selector ds same is) (rest more refl))

repeat_same : (test : Bool) (dims ds : List ℕ) (e : SelectError) → cond test (Err e) (Ok dims) ≡ Ok ds → dims ≡ ds
repeat_same true dims ds e is = absurd (cc)
repeat_same false dims ds e is = cc

known_below : (rank : ℕ) (o : Option (List ℕ)) (dims : List ℕ) → ((ds : List ℕ) → o ≡ Some ds → AreBelow rank ds) → where_known o ≡ Ok dims → AreBelow rank dims
known_below rank None dims each e = absurd (cc)
known_below rank (Some ds) dims each e = subst (AreBelow rank) (repeat_same _ ds dims _ e) (each ds refl)

-- a step that adds no dimensions selects ones that are there
pub selected_below : (u : DomainAndMaps) (step : Step) (dims : List ℕ) → HasRank u → is_newaxis step.act ≡ false → selected_of step u.domain ≡ Ok dims → AreBelow (length u.domain.dims) dims
selected_below u step dims has other e = by step.all e
  where
    rank : ℕ
    rank = length u.domain.dims

    positions : positions_of step (length u.domain.dims) ≡ length u.domain.dims
    positions = ap (λ b. cond b (length u.domain.dims + length step.dims) (length u.domain.dims)) other

    by : (all : Bool) → cond all (Ok (range_with_len 0 (length u.domain.dims))) (where_known (selected_by_all (positions_of step (length u.domain.dims)) u.domain.labels step.dims)) ≡ Ok dims → AreBelow (length u.domain.dims) dims
    by true is =
        let same : range_with_len 0 (length u.domain.dims) ≡ dims = cc in
        subst (AreBelow (length u.domain.dims)) same (wider (0 + length u.domain.dims) (length u.domain.dims) _ (omega arith) (range_below 0 (length u.domain.dims)))
    by false is =
        known_below (length u.domain.dims) (selected_by_all (positions_of step (length u.domain.dims)) u.domain.labels step.dims) dims
        (λ ds found. by_all_below (length u.domain.dims) u.domain.labels step.dims ds has.labels (subst (λ n. selected_by_all n u.domain.labels step.dims ≡ Some ds) positions found)) is

-- ---- steps

-- a view of so many dimensions, and as many labels
same_rank : (dims : List Bounds) (labels : List (List ℕ)) (maps : List OutMap) (n : ℕ) → length dims ≡ n → length labels ≡ n → n ≤ 32 → HasRank (record { domain = record { dims = dims; labels = labels }; maps = maps })
same_rank dims labels maps n one other few = record { few = omega (arith, one, few); labels = other ∙ sym one }

-- new dimensions, and those that aren't selected
without_rank : (u : DomainAndMaps) (selected : List ℕ) (news : List Bounds) (put : ℕ → OutMap) → length news + length (others selected (length u.domain.dims)) ≤ 32 → HasRank (without u selected news put)
without_rank u selected news put few =
    let rest = others selected (length u.domain.dims) in
    let a = length-append news (map (dim_at u.domain.dims) rest) in
    let b = length-map rest (dim_at u.domain.dims) in
    let c = length-append (map (λ (d : Bounds). []) news) (map (label_at u.domain.labels) rest) in
    let d = length-map {B = List ℕ} news (λ (d : Bounds). []) in
    let e = length-map rest (label_at u.domain.labels) in
    record { few = omega (arith, a, b, few); labels = omega (arith, a, b, c, d, e) }

-- where dimensions are selected, one less stays
pub fewer : (u : DomainAndMaps) (selected : List ℕ) → HasRank u → AreBelow (length u.domain.dims) selected → (length selected == 0) ≡ false → 1 + length (others selected (length u.domain.dims)) ≤ 32
fewer u [] has below some = absurd (cc)
fewer u (x ∷ selected) has below some =
    let same : (x == x) ≡ true = grind (arith, nat_tests) in
    let gone : is_none (spot_in (x ∷ selected) x) ≡ false = rw same refl in
    let less = below.0 in
    let less_now = rest_fewer (x ∷ selected) 0 (length u.domain.dims) x (omega arith) (omega (arith, less)) gone in
    omega (arith, less_now, has.few)

cut_gives : (u : DomainAndMaps) (selected : List ℕ) (a : Act) → HasRank u → Gives (cut_answer u selected a)
cut_gives u selected a has =
    either _ _ _ (refused _) (unless_gives _ _ (over_gives u (cut_view u selected a)
    (same_rank _ u.domain.labels _ (length u.domain.dims) (range-length _ 0 (length u.domain.dims)) has.labels has.few)))

targets_gives : (u : DomainAndMaps) (selected : List ℕ) (o : Option (List ℕ)) → HasRank u → Gives (to_targets u selected o)
targets_gives u selected None has = refused _
targets_gives u selected (Some targets) has =
    either _ _ _ (refused _) (over_gives u (transpose_view u selected targets)
    (same_rank _ _ _ (length u.domain.dims) (range-length _ 0 (length u.domain.dims)) (range-length _ 0 (length u.domain.dims)) has.few))

diagonal_gives : (u : DomainAndMaps) (selected : List ℕ) (none : Bool) → HasRank u → AreBelow (length u.domain.dims) selected → (length selected == 0) ≡ none → Gives (cond none (Err Count) (over u (diagonal_view u selected)))
diagonal_gives u selected true has below is = refused Count
diagonal_gives u selected false has below is = over_gives u (diagonal_view u selected) (without_rank u selected (_ ∷ []) _ (fewer u selected has below is))

vindex_gives : (u : DomainAndMaps) (selected : List ℕ) (arrays : List (List ℤ)) (join : Bool) (o : Option Cause) → HasRank u → AreBelow (length u.domain.dims) selected → are_joined arrays (length selected) ≡ join
    → Gives (cond (not join) (Err Count) (unless_refused o (over u (vindex_view u selected arrays))))
vindex_gives u selected arrays false o has below is = refused Count
vindex_gives u selected arrays true o has below is =
    let some : (length selected == 0) ≡ false = opposite (length selected == 0) (and_parts (not (length selected == 0)) _ (and_parts (not (length selected == 0) && (length arrays == length selected)) _ is).0).0 in
    unless_gives o _ (over_gives u (vindex_view u selected arrays) (without_rank u selected (_ ∷ []) _ (fewer u selected has below some)))
  where
    opposite : (b : Bool) → not b ≡ true → b ≡ false
    opposite true e = absurd (cc)
    opposite false e = refl

newaxis_gives : (u : DomainAndMaps) (added : List ℕ) (fits : Bool) → nat_le (length u.domain.dims + length added) 32 ≡ fits → Gives (cond fits (over u (newaxis_view u added)) (Err Rank))
newaxis_gives u added true is =
    let n = length u.domain.dims + length added in
    over_gives u (newaxis_view u added) (same_rank _ _ _ (length u.domain.dims + length added) (range-length _ 0 n) (range-length _ 0 n) (leb-true (length u.domain.dims + length added) 32 is))
newaxis_gives u added false is = refused Rank

label_gives : (u : DomainAndMaps) (selected : List ℕ) (labels : List (List ℕ)) → HasRank u → Gives (only_labels (with_labels u (new_labels u selected labels)))
label_gives u selected labels has =
    either _ _ _ (one _ (same_rank u.domain.dims _ u.maps (length u.domain.dims) refl (range-length _ 0 (length u.domain.dims)) has.few)) (refused Label)

step_gives : (u : DomainAndMaps) (selected : List ℕ) (a : Act) → HasRank u → (is_newaxis a ≡ false → AreBelow (length u.domain.dims) selected) → Gives (step_answer u selected a)
step_gives u selected (act.Label labels) has below = either _ _ _ (refused _) (label_gives u selected labels has)
step_gives u selected (act.TranslateTo by) has below = cut_gives u selected (act.TranslateTo by) has
step_gives u selected (act.TranslateBy by) has below = cut_gives u selected (act.TranslateBy by) has
step_gives u selected (act.TranslateBackwardBy by) has below = cut_gives u selected (act.TranslateBackwardBy by) has
step_gives u selected (act.Stride by) has below = cut_gives u selected (act.Stride by) has
step_gives u selected (act.Transpose targets) has below =
    let given = all_of (position_of (rank_of u)) targets in
    either (not (length targets == length selected)) (Err Count) (to_targets u selected given) (refused Count) (targets_gives u selected given has)
step_gives u selected act.Diagonal has below = diagonal_gives u selected (length selected == 0) has (below refl) refl
step_gives u selected (act.At by) has below =
    let few = rest_few selected 0 (length u.domain.dims) in
    either _ _ _ (refused _) (unless_gives _ _ (over_gives u (at_view u selected by) (without_rank u selected [] _ (omega (arith, few, has.few)))))
step_gives u selected (act.Slice by) has below = cut_gives u selected (act.Slice by) has
step_gives u selected (act.Oindex arrays) has below =
    either _ _ _ (refused _) (unless_gives _ _ (over_gives u (oindex_view u selected arrays)
    (same_rank _ _ _ (length u.domain.dims) (range-length _ 0 (length u.domain.dims)) (range-length _ 0 (length u.domain.labels) ∙ has.labels) has.few)))
step_gives u selected (act.Vindex arrays) has below = vindex_gives u selected arrays (are_joined arrays (length selected)) _ has (below refl) refl
step_gives u selected act.Newaxis has below = newaxis_gives u selected (nat_le (length u.domain.dims + length selected) 32) refl
step_gives u selected (act.MarkBoundsImplicit lower upper) has below =
    either _ _ _ (refused _) (one (with_marks u selected lower upper) (same_rank _ u.domain.labels u.maps (length u.domain.dims) (range-length _ 0 (length u.domain.dims)) has.labels has.few))

numbered_gives : (number : ℕ) (r : Result DomainAndMaps Cause) → Gives r → Gives (numbered number r)
numbered_gives number (Ok t) g = one t (g.each t refl)
numbered_gives number (Err cause) g = refused _

pub after_gives : (number : ℕ) (u : DomainAndMaps) (step : Step) → HasRank u → Gives (after_step number u step)
after_gives number u step has = by (selected_of step u.domain) refl
  where
    by : (r : Result (List ℕ) SelectError) → selected_of step u.domain ≡ r → Gives (answer_on number u step r)
    by (Ok dims) is = numbered_gives number (step_answer u dims step.act) (step_gives u dims step.act has (λ other. selected_below u step dims has other is))
    by (Err e) is = refused _

from_gives : (number : ℕ) (u : DomainAndMaps) (steps : List Step) → HasRank u → Gives (applied_from number u steps)
from_gives number u [] has = one u has
from_gives number u (step ∷ steps) has = by (after_step number u step) (after_gives number u step has) (λ t. from_gives (number + 1) t steps)
  where
    by : (r : Result DomainAndMaps ApplyError) → Gives r → ((t : DomainAndMaps) → HasRank t → Gives (applied_from (number + 1) t steps)) → Gives (elim r [ Ok t ↦ applied_from (number + 1) t steps | Err e ↦ Err e ])
    by (Ok t) g rest = rest t (g.each t refl)
    by (Err e) g rest = refused e

-- so has a transform after steps
pub applied_rank : (u t : DomainAndMaps) (steps : List Step) → HasRank u → applied u steps ≡ Ok t → HasRank t
applied_rank u t steps has e = (from_gives 0 u steps has).each t e
