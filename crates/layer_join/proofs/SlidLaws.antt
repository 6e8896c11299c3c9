-- A view moved along an axis shows at an index vector what it showed before at the vector with the shift taken off.
use Rattle.std.proofs.Common.{◌≡◌, ◌≢◌, ◌∙◌, ◌<◌, ◌+◌, ◌*◌, ℕ, zero, suc, ◌==◌, ℤ, pos, ◌+ℤ◌, ◌-ℤ◌, ◌*ℤ◌, unsigned_abs, Bool, true, false, cond, List, [], ◌∷◌, length, map, get_or, Result, refl, sym, ap, arith}
use Rattle.std.proofs.Math.IntN.{*ℤ_comm}
use Rattle.std.proofs.lemmas.Bool.Decides.{nat_tests}
use Rattle.std.proofs.lemmas.Int.{ints}
use Rattle.std.proofs.lemmas.List.{length-map, get_or-set_same, get_or-set_other}
use Rattle.std.specs.List.{AllByRecursion, zip}
use Rattle.cells.specs.Places.{cell_count}
use Rattle.cells.specs.declared.dtype.Dtype.{Dtype}
use Rattle.index_intervals.specs.Bounds.{Bounds}
use Rattle.index_intervals.proofs.Laws.{add-*ℤ}
use Rattle.index_transform.specs.Values.{entry_index, entry_place, map_value}
use Rattle.index_transform.specs.declared.map.OutMap.{OutMap}
use Rattle.index_transform.specs.declared.map.OutMap.TheVariants.{Constant, Strided, Indexed}
use Rattle.stack_driver.proofs.Laws.{moves, kept, own_dims}
use Rattle.stack_driver.specs.Conditions.{HasKind, IsView}
use Rattle.stack_driver.specs.Targets.{Target, has_index}
use Rattle.stack_driver.specs.Views.{look_of, last_target, own_transform, target_of}
use Rattle.stack_driver.specs.declared.error.TargetError.{TargetError}
use Rattle.stack_driver.specs.declared.view.View.{View}
use Rattle.layer_join.specs.Slid.{slid, slid_dims, slid_back, slid_offset, slid_look, slid_map, slid_transform, slid_view}
use Rattle.layer_join.proofs.Slides.{length-slid_dims}

times-less : (s x y : ℤ) → s *ℤ (x -ℤ y) ≡ s *ℤ x -ℤ s *ℤ y
times-less s x y =
    let e = add-*ℤ (x -ℤ y) y s in
    let f : (x -ℤ y) +ℤ y ≡ x = omega (arith, ints) in
    let g = ap (λ z. z *ℤ s) f in
    let a = *ℤ_comm s (x -ℤ y) in
    let b = *ℤ_comm s x in
    let c = *ℤ_comm s y in
    omega (arith, ints, e, g, a, b, c)

slid_entry : (dim : Bounds) (by : ℤ) (n : ℕ) (x : ℤ) → entry_index (slid by dim) n x ≡ entry_index dim n (x -ℤ by)
slid_entry dim by n x = told (n == 1)
  where
    told : (b : Bool) → cond b 0 (unsigned_abs (x -ℤ (dim.lo +ℤ by))) ≡ cond b 0 (unsigned_abs ((x -ℤ by) -ℤ dim.lo))
    told true = refl
    told false = let e : x -ℤ (dim.lo +ℤ by) ≡ (x -ℤ by) -ℤ dim.lo = omega (arith, ints) in ap unsigned_abs e

-- an index array is read where it was before
slid_place : (axis : ℕ) (by : ℤ) (dims : List Bounds) (sizes : List ℕ) (index : List ℤ)
    → entry_place (slid_dims axis by dims) sizes index ≡ entry_place dims sizes (slid_back axis by index)
slid_place zero by [] sizes index = refl
slid_place (suc axis) by [] sizes index = refl
slid_place zero by (d ∷ dims) [] index = refl
slid_place (suc axis) by (d ∷ dims) [] index = refl
slid_place zero by (d ∷ dims) (n ∷ sizes) [] = refl
slid_place (suc axis) by (d ∷ dims) (n ∷ sizes) [] = refl
slid_place zero by (d ∷ dims) (n ∷ sizes) (x ∷ index) = ap (λ k. k * cell_count sizes + entry_place dims sizes index) (slid_entry d by n x)
slid_place (suc axis) by (d ∷ dims) (n ∷ sizes) (x ∷ index) = ap (λ k. entry_index d n x * cell_count sizes + k) (slid_place axis by dims sizes index)

slid_value : (axis : ℕ) (by : ℤ) (dims : List Bounds) (index : List ℤ) (m : OutMap) → axis < length index
    → map_value (slid_dims axis by dims) index (slid_map axis by m) ≡ map_value dims (slid_back axis by index) m
slid_value axis by dims index (Constant o) inside = refl
slid_value axis by dims index (Strided o s d) inside = told (d == axis) refl
  where
    told : (b : Bool) → (d == axis) ≡ b
        → map_value (slid_dims axis by dims) index (cond b (Strided (slid_offset by o s) s d) (Strided o s d)) ≡ o +ℤ s *ℤ get_or (slid_back axis by index) d (pos 0)
    told true e =
        let same : d ≡ axis = grind (arith, nat_tests, e) in
        let here : get_or (slid_back axis by index) d (pos 0) ≡ get_or index axis (pos 0) -ℤ by =
        ap (λ k. get_or (slid_back axis by index) k (pos 0)) same ∙ get_or-set_same index axis (get_or index axis (pos 0) -ℤ by) (pos 0) inside in
        let product = times-less s (get_or index axis (pos 0)) by in
        ap (λ k. slid_offset by o s +ℤ s *ℤ get_or index k (pos 0)) same ∙ omega (arith, ints, product) ∙ ap (λ z. o +ℤ s *ℤ z) (sym here)
    told false e =
        let apart : d ≢ axis = grind (arith, nat_tests, e) in
        ap (λ z. o +ℤ s *ℤ z) (sym (get_or-set_other index axis d (get_or index axis (pos 0) -ℤ by) (pos 0) apart))
slid_value axis by dims index (Indexed o s sizes entries) inside = ap (λ k. o +ℤ s *ℤ get_or entries k (pos 0)) (slid_place axis by dims sizes index)

slid_values : (axis : ℕ) (by : ℤ) (dims : List Bounds) (index : List ℤ) (maps : List OutMap) → axis < length index
    → map (map_value (slid_dims axis by dims) index) (map (slid_map axis by) maps) ≡ map (map_value dims (slid_back axis by index)) maps
slid_values axis by dims index [] inside = refl
slid_values axis by dims index (m ∷ ms) inside =
    ap (λ x. x ∷ map (map_value (slid_dims axis by dims) index) (map (slid_map axis by) ms)) (slid_value axis by dims index m inside)
    ∙ ap (λ xs. map_value dims (slid_back axis by index) m ∷ xs) (slid_values axis by dims index ms inside)

-- what a moved view is from outside
pub slid_shows : (axis : ℕ) (by : ℤ) (v : View) → (look_of (slid_view axis by v)).dims ≡ slid_dims axis by (look_of v).dims
slid_shows axis by v = (moves (slid_transform axis by (own_transform v)) v).dims ∙ ap (slid_dims axis by) (own_dims v)

pub slid_dtype : (axis : ℕ) (by : ℤ) (v : View) → (look_of (slid_view axis by v)).dtype ≡ (look_of v).dtype
slid_dtype axis by v = (moves (slid_transform axis by (own_transform v)) v).dtype

pub slid_target : (axis : ℕ) (by : ℤ) (v : View) (index : List ℤ) → axis < length index → target_of (slid_view axis by v) index ≡ target_of v (slid_back axis by index)
slid_target axis by v index inside =
    (moves (slid_transform axis by (own_transform v)) v).target index (slid_back axis by index)
    (slid_values axis by (own_transform v).domain.dims index (own_transform v).maps inside)

pub slid_kind : (axis : ℕ) (by : ℤ) (v : View) (dtype : Dtype) (rank : ℕ) → HasKind dtype rank v → HasKind dtype rank (slid_view axis by v)
slid_kind axis by v dtype rank k = record {
  dtype_is = slid_dtype axis by v ∙ k.dtype_is;
  rank_is = ap (λ (ds : List Bounds). length ds) (slid_shows axis by v) ∙ length-slid_dims axis by (look_of v).dims ∙ k.rank_is;
}

pub slid_is_view : (axis : ℕ) (by : ℤ) (v : View) → IsView v → IsView (slid_view axis by v)
slid_is_view axis by v h = kept (slid_transform axis by (own_transform v)) v h (length-map (own_transform v).maps (slid_map axis by))

abbrev slid_pairs : ℕ → List ℤ → List View → List View
slid_pairs axis shifts views = map (λ p. slid_view axis p.0 p.1) (zip shifts views)

pub slid_kinds : (axis : ℕ) (shifts : List ℤ) (views : List View) (dtype : Dtype) (rank : ℕ) → AllByRecursion (HasKind dtype rank) views
    → AllByRecursion (HasKind dtype rank) (slid_pairs axis shifts views)
slid_kinds axis [] views dtype rank all = tt
slid_kinds axis (by ∷ shifts) [] dtype rank all = tt
slid_kinds axis (by ∷ shifts) (v ∷ vs) dtype rank all = (slid_kind axis by v dtype rank all.0, slid_kinds axis shifts vs dtype rank all.1)

pub slid_are_views : (axis : ℕ) (shifts : List ℤ) (views : List View) → AllByRecursion IsView views → AllByRecursion IsView (slid_pairs axis shifts views)
slid_are_views axis [] views all = tt
slid_are_views axis (by ∷ shifts) [] all = tt
slid_are_views axis (by ∷ shifts) (v ∷ vs) all = (slid_is_view axis by v all.0, slid_are_views axis shifts vs all.1)

-- of the moved views the last that has an index vector, seen from outside
pub slid_last : (axis : ℕ) (shifts : List ℤ) (views : List View) (index : List ℤ) (found : Result Target TargetError) → axis < length index
    → last_target (map look_of (slid_pairs axis shifts views)) index found ≡ last_target (map (λ p. slid_look axis p.0 (look_of p.1)) (zip shifts views)) index found
slid_last axis [] views index found inside = refl
slid_last axis (by ∷ shifts) [] index found inside = refl
slid_last axis (by ∷ shifts) (v ∷ vs) index found inside =
    ap (λ f. last_target (map look_of (slid_pairs axis shifts vs)) index f)
    (ap (λ (ds : List Bounds). cond (has_index ds index) (target_of (slid_view axis by v) index) found) (slid_shows axis by v)
    ∙ ap (λ r. cond (has_index (slid_dims axis by (look_of v).dims) index) r found) (slid_target axis by v index inside))
    ∙ slid_last axis shifts vs index (cond (has_index (slid_dims axis by (look_of v).dims) index) (target_of v (slid_back axis by index)) found) inside
