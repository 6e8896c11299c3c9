-- A view at a place of a new dimension shows there what it showed before, and nothing at other places.
use Rattle.std.proofs.Common.{◌≡◌, ◌≢◌, ◌∙◌, ◌<◌, ◌≤◌, ℕ, zero, suc, ◌+◌, ◌*◌, nat_lt, ℤ, pos, negsuc, ◌+ℤ◌, ◌-ℤ◌, ◌*ℤ◌, ◌<ℤ◌, int_le, Bool, true, false, cond, ◌&&◌, List, [], ◌∷◌, length, map, get_or, Option, Some, None, Result, Err, refl, sym, ap, arith}
use Rattle.std.specs.Prelude.{slice_get}
use Rattle.std.proofs.lemmas.Bool.Decides.{nat_tests}
use Rattle.std.proofs.lemmas.Int.{ints}
use Rattle.std.proofs.lemmas.List.{length-map}
use Rattle.std.proofs.lemmas.List.Edits.{length-insert, get_or-remove_below, get_or-remove_above}
use Rattle.std.specs.List.{AllByRecursion, insert, remove}
use Rattle.cells.proofs.Laws.{both_true}
use Rattle.cells.specs.Places.{cell_count}
use Rattle.cells.specs.declared.dtype.Dtype.{Dtype}
use Rattle.index_intervals.specs.Bounds.{Bounds, is_index}
use Rattle.index_intervals.proofs.Laws.{IsIndex-true}
use Rattle.index_transform.specs.Values.{entry_index, entry_place, map_value}
use Rattle.index_transform.specs.declared.map.OutMap.{OutMap}
use Rattle.index_transform.specs.declared.map.OutMap.TheVariants.{Constant, Strided, Indexed}
use Rattle.stack_driver.proofs.Laws.{moves, kept, own_dims}
use Rattle.stack_driver.specs.Conditions.{HasKind, IsView}
use Rattle.stack_driver.specs.Targets.{Target, is_member, has_index}
use Rattle.stack_driver.specs.Views.{look_of, last_target, own_transform, target_of}
use Rattle.stack_driver.specs.declared.error.TargetError.{TargetError}
use Rattle.stack_driver.specs.declared.error.TargetError.TheVariants.{Uncovered}
use Rattle.stack_driver.specs.declared.view.View.{View}
use Rattle.layer_join.specs.Placed.{from_on, placed_map, placed_transform, placed_view, placed_from}
use Rattle.layer_join.specs.Joins.{target_within, view_at}
use Rattle.layer_join.proofs.Placings.{same_count}

no_sizes : (dims : List Bounds) (index : List ℤ) → entry_place dims [] index ≡ 0
no_sizes [] index = refl
no_sizes (d ∷ dims) index = refl

-- an index array is read where it was before
placed_place : (axis : ℕ) (dim : Bounds) (dims : List Bounds) (sizes : List ℕ) (index : List ℤ) → axis ≤ length dims → axis < length index
    → entry_place (insert dims axis dim) (insert sizes axis 1) index ≡ entry_place dims sizes (remove index axis)
placed_place zero dim dims sizes [] inside has = absurd (omega (arith, has))
placed_place zero dim dims sizes (x ∷ index) inside has = omega arith
placed_place (suc axis) dim [] sizes index inside has = absurd (omega (arith, inside))
placed_place (suc axis) dim (d ∷ dims) sizes [] inside has = absurd (omega (arith, has))
placed_place (suc axis) dim (d ∷ dims) [] (x ∷ index) inside has = let rest = no_sizes (insert dims axis dim) index in omega (arith, rest)
placed_place (suc axis) dim (d ∷ dims) (n ∷ sizes) (x ∷ index) inside has =
    ap (λ k. entry_index d n x * k + entry_place (insert dims axis dim) (insert sizes axis 1) index) (same_count sizes axis)
    ∙ ap (λ k. entry_index d n x * cell_count sizes + k) (placed_place axis dim dims sizes index (omega (arith, inside)) (omega (arith, has)))

placed_value : (axis : ℕ) (dim : Bounds) (dims : List Bounds) (index : List ℤ) (m : OutMap) → axis ≤ length dims → axis < length index
    → map_value (insert dims axis dim) index (placed_map axis m) ≡ map_value dims (remove index axis) m
placed_value axis dim dims index (Constant o) inside has = refl
placed_value axis dim dims index (Strided o s d) inside has = told (nat_lt d axis) refl
  where
    told : (b : Bool) → nat_lt d axis ≡ b → o +ℤ s *ℤ get_or index (cond b d (d + 1)) (pos 0) ≡ o +ℤ s *ℤ get_or (remove index axis) d (pos 0)
    told true e = let below : d < axis = grind (arith, nat_tests, e) in ap (λ z. o +ℤ s *ℤ z) (sym (get_or-remove_below index axis (pos 0) d below has))
    told false e = let above : axis ≤ d = grind (arith, nat_tests, e) in ap (λ z. o +ℤ s *ℤ z) (sym (get_or-remove_above index axis (pos 0) d above has))
placed_value axis dim dims index (Indexed o s sizes entries) inside has = ap (λ k. o +ℤ s *ℤ get_or entries k (pos 0)) (placed_place axis dim dims sizes index inside has)

placed_values : (axis : ℕ) (dim : Bounds) (dims : List Bounds) (index : List ℤ) (maps : List OutMap) → axis ≤ length dims → axis < length index
    → map (map_value (insert dims axis dim) index) (map (placed_map axis) maps) ≡ map (map_value dims (remove index axis)) maps
placed_values axis dim dims index [] inside has = refl
placed_values axis dim dims index (m ∷ ms) inside has =
    ap (λ x. x ∷ map (map_value (insert dims axis dim) index) (map (placed_map axis) ms)) (placed_value axis dim dims index m inside has)
    ∙ ap (λ xs. map_value dims (remove index axis) m ∷ xs) (placed_values axis dim dims index ms inside has)

swapped : (a b c : Bool) → (a && (b && c)) ≡ (b && (a && c))
swapped true b c = refl
swapped false true c = refl
swapped false false c = refl

-- an index vector lies in the domain where its index along the new dimension does, and the others do
placed_has : (axis : ℕ) (dim : Bounds) (dims : List Bounds) (index : List ℤ) → axis ≤ length dims → axis < length index
    → has_index (insert dims axis dim) index ≡ (is_member dim (get_or index axis (pos 0)) && has_index dims (remove index axis))
placed_has axis dim dims [] inside has = absurd (omega (arith, has))
placed_has zero dim dims (x ∷ index) inside has = refl
placed_has (suc axis) dim [] (x ∷ index) inside has = absurd (omega (arith, inside))
placed_has (suc axis) dim (d ∷ dims) (x ∷ index) inside has =
    ap (λ b. is_member d x && b) (placed_has axis dim dims index (omega (arith, inside)) (omega (arith, has)))
    ∙ swapped (is_member d x) (is_member dim (get_or index axis (pos 0))) (has_index dims (remove index axis))

-- what a placed view is from outside
pub placed_shows : (axis place : ℕ) (v : View) → (look_of (placed_view axis place v)).dims ≡ insert (look_of v).dims axis (from_on (pos place) 1)
placed_shows axis place v = (moves (placed_transform axis place (own_transform v)) v).dims ∙ ap (λ (ds : List Bounds). insert ds axis (from_on (pos place) 1)) (own_dims v)

pub placed_dtype : (axis place : ℕ) (v : View) → (look_of (placed_view axis place v)).dtype ≡ (look_of v).dtype
placed_dtype axis place v = (moves (placed_transform axis place (own_transform v)) v).dtype

placed_target : (axis place : ℕ) (v : View) (index : List ℤ) → axis ≤ length (look_of v).dims → axis < length index
    → target_of (placed_view axis place v) index ≡ target_of v (remove index axis)
placed_target axis place v index inside has =
    let same = ap (λ (ds : List Bounds). length ds) (own_dims v) in
    (moves (placed_transform axis place (own_transform v)) v).target index (remove index axis)
    (placed_values axis (from_on (pos place) 1) (own_transform v).domain.dims index (own_transform v).maps (omega (arith, inside, same)) has)

pub placed_kind : (axis place : ℕ) (v : View) (dtype : Dtype) (rank : ℕ) → axis ≤ rank → HasKind dtype rank v → HasKind dtype (rank + 1) (placed_view axis place v)
placed_kind axis place v dtype rank inside k = record {
  dtype_is = placed_dtype axis place v ∙ k.dtype_is;
  rank_is = ap (λ (ds : List Bounds). length ds) (placed_shows axis place v) ∙ (let r = k.rank_is in let n = length-insert (look_of v).dims axis (from_on (pos place) 1) (omega (arith, inside, r)) in omega (arith, n, r));
}

pub placed_kinds : (axis place : ℕ) (views : List View) (dtype : Dtype) (rank : ℕ) → axis ≤ rank → AllByRecursion (HasKind dtype rank) views
    → AllByRecursion (HasKind dtype (rank + 1)) (placed_from place axis views)
placed_kinds axis place [] dtype rank inside all = tt
placed_kinds axis place (v ∷ vs) dtype rank inside all = (placed_kind axis place v dtype rank inside all.0, placed_kinds axis (place + 1) vs dtype rank inside all.1)

pub placed_are_views : (axis place : ℕ) (views : List View) → AllByRecursion IsView views → AllByRecursion IsView (placed_from place axis views)
placed_are_views axis place [] all = tt
placed_are_views axis place (v ∷ vs) all =
    (kept (placed_transform axis place (own_transform v)) v all.0 (length-map (own_transform v).maps (placed_map axis)), placed_are_views axis (place + 1) vs all.1)

pub length-placed_from : (axis place : ℕ) (views : List View) → length (placed_from place axis views) ≡ length views
length-placed_from axis place [] = refl
length-placed_from axis place (v ∷ vs) = ap suc (length-placed_from axis (place + 1) vs)

-- a view that is put along a new dimension at this axis
abbrev pub HasAxis : ℕ → View → Type 0
HasAxis axis v = axis ≤ length (look_of v).dims

not_at : (place : ℕ) (x : ℤ) → x ≢ pos place → is_member (from_on (pos place) 1) x ≡ false
not_at place x apart = told (is_member (from_on (pos place) 1) x) refl
  where
    told : (b : Bool) → is_member (from_on (pos place) 1) x ≡ b → b ≡ false
    told false e = refl
    told true e = absurd (apart (grind (arith, ints, e)))

at_one : (place : ℕ) → place < 4611686018427387903 → is_member (from_on (pos place) 1) (pos place) ≡ true
at_one place small =
    both_true (is_index (pos place)) (int_le (pos place) (pos place) && int_le (pos place) (pos place +ℤ pos 1 -ℤ pos 1))
    (IsIndex-true (pos place) (record { above = omega (arith, ints); below = omega (arith, ints, small) }))
    (both_true (int_le (pos place) (pos place)) (int_le (pos place) (pos place +ℤ pos 1 -ℤ pos 1)) (grind (arith, ints)) (grind (arith, ints)))

step : (axis place : ℕ) (v : View) (index : List ℤ) (found : Result Target TargetError) → HasAxis axis v → axis < length index → (b : Bool)
    → is_member (from_on (pos place) 1) (get_or index axis (pos 0)) ≡ b
    → cond (has_index (look_of (placed_view axis place v)).dims index) (target_of (placed_view axis place v) index) found
    ≡ cond (b && has_index (look_of v).dims (remove index axis)) (target_of v (remove index axis)) found
step axis place v index found inside has b e =
    ap (λ (ds : List Bounds). cond (has_index ds index) (target_of (placed_view axis place v) index) found) (placed_shows axis place v)
    ∙ ap (λ t. cond t (target_of (placed_view axis place v) index) found) (placed_has axis (from_on (pos place) 1) (look_of v).dims index inside has)
    ∙ ap (λ r. cond (is_member (from_on (pos place) 1) (get_or index axis (pos 0)) && has_index (look_of v).dims (remove index axis)) r found) (placed_target axis place v index inside has)
    ∙ ap (λ t. cond (t && has_index (look_of v).dims (remove index axis)) (target_of v (remove index axis)) found) e

-- no view from a place on has a cell whose index along the new dimension lies before
none_before : (axis place : ℕ) (views : List View) (index : List ℤ) (found : Result Target TargetError) → AllByRecursion (HasAxis axis) views → axis < length index
    → get_or index axis (pos 0) <ℤ pos place → last_target (map look_of (placed_from place axis views)) index found ≡ found
none_before axis place [] index found all has before = refl
none_before axis place (v ∷ vs) index found all has before =
    ap (last_target (map look_of (placed_from (place + 1) axis vs)) index)
    (step axis place v index found all.0 has false (not_at place (get_or index axis (pos 0)) (λ same. absurd (omega (arith, ints, before, same)))))
    ∙ none_before axis (place + 1) vs index found all.1 has (omega (arith, ints, before))

abbrev or_found : Option View → List ℤ → Result Target TargetError → Result Target TargetError
or_found None index found = found
or_found (Some v) index found = cond (has_index (look_of v).dims index) (target_of v index) found

-- the view at the place that the index along the new dimension names
at_place : (axis place k : ℕ) (views : List View) (index : List ℤ) (found : Result Target TargetError) → AllByRecursion (HasAxis axis) views → axis < length index
    → place + length views ≤ 4611686018427387902 → get_or index axis (pos 0) ≡ pos (place + k) → last_target (map look_of (placed_from place axis views)) index found ≡ or_found (slice_get views k) (remove index axis) found
at_place axis place k [] index found all has small at = refl
at_place axis place zero (v ∷ vs) index found all has small at =
    ap (last_target (map look_of (placed_from (place + 1) axis vs)) index)
    (step axis place v index found all.0 has true
    (let here : get_or index axis (pos 0) ≡ pos place = at ∙ ap pos (omega arith) in ap (is_member (from_on (pos place) 1)) here ∙ at_one place (omega (arith, small))))
    ∙ none_before axis (place + 1) vs index (cond (has_index (look_of v).dims (remove index axis)) (target_of v (remove index axis)) found) all.1 has (omega (arith, ints, at))
at_place axis place (suc k) (v ∷ vs) index found all has small at =
    ap (last_target (map look_of (placed_from (place + 1) axis vs)) index)
    (step axis place v index found all.0 has false (not_at place (get_or index axis (pos 0)) (λ same. absurd (omega (arith, ints, at, same)))))
    ∙ at_place axis (place + 1) k vs index found all.1 has (omega (arith, small)) (at ∙ ap pos (omega arith))

-- the target along a new dimension is that of the view that the index there numbers
pub placed_last : (axis : ℕ) (views : List View) (index : List ℤ) → AllByRecursion (HasAxis axis) views → axis < length index → length views ≤ 256
    → last_target (map look_of (placed_from 0 axis views)) index (Err Uncovered) ≡ target_within (view_at views (get_or index axis (pos 0))) (remove index axis)
placed_last axis views index all has few = told (get_or index axis (pos 0)) refl
  where
    found : (o : Option View) → or_found o (remove index axis) (Err Uncovered) ≡ target_within o (remove index axis)
    found None = refl
    found (Some v) = refl

    told : (x : ℤ) → get_or index axis (pos 0) ≡ x
        → last_target (map look_of (placed_from 0 axis views)) index (Err Uncovered) ≡ target_within (view_at views x) (remove index axis)
    told (pos k) e = at_place axis 0 k views index (Err Uncovered) all has (omega (arith, few)) (e ∙ ap pos (omega arith)) ∙ found (slice_get views k)
    told (negsuc k) e = none_before axis 0 views index (Err Uncovered) all has (omega (arith, ints, e))
