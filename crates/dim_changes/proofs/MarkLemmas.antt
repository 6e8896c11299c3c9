-- A transform whose bounds have other flags.
use Rattle.std.proofs.Common.{◌≡◌, ◌∙◌, suc, ℕ, ◌+◌, ◌*◌, ◌<◌, ◌==◌, ◌&&◌, ◌||◌, Bool, true, false, cond, not, List, [], ◌∷◌, length, map, get_or, refl, sym, ap, arith, ℤ, pos, ◌+ℤ◌, ◌*ℤ◌, ◌-ℤ◌, unsigned_abs, if◌then◌else◌, Option, Some, None, Ok, Err, unwrap_or, nat_lt, IsTrue}
use Rattle.std.proofs.lemmas.Bool.Decides.{nat_tests}
use Rattle.std.specs.List.{list_all, list_any, zip, position_from, range_with_len}
use Rattle.std.proofs.lemmas.List.FromFn.{length-map-range_with_len, get_or-map-range_with_len}
use Rattle.cells.specs.Places.{cell_count}
use Rattle.index_intervals.specs.Bounds.{Bounds, is_index}
use Rattle.transform_composition.specs.declared.OutMap.{OutMap}
use Rattle.transform_composition.specs.declared.OutMap.TheVariants.{Constant, Strided, Indexed}
use Rattle.transform_composition.specs.Maps.{is_map, fits, fits_dim, is_fixed, are_entries, has_ranks, size_of}
use Rattle.transform_composition.specs.Reading.{point, has_array_along}
use Rattle.transform_composition.specs.Transforms.{DomainAndMaps, IsTransform, KeepsRules}
use Rattle.transform_composition.specs.Values.{value_at, map_value, entry_place, entry_index}
use Rattle.dim_changes.specs.Dims.{spot_in, dim_at}
use Rattle.dim_changes.specs.Marks.{marked, marked_dim, with_marks, has_array_on, makes_implicit, mark_answer}
use Rattle.dim_changes.specs.declared.cause.Cause.TheVariants.{IndexDim}
use Rattle.cells.proofs.Laws.{both, both_true}

-- what holds of off listed dimension doesn't hold of one that has a spot in the list
pub none_selected : (p : ℕ → Bool) (selected : List ℕ) (i k spot : ℕ) → position_from (λ d. d == k) i selected ≡ Some spot → list_any p selected ≡ false → p k ≡ false
none_selected p [] i k spot e none = cc
none_selected p (d ∷ selected) i k spot e none = told (d == k) (p d) refl refl e none (none_selected p selected (i + 1) k spot)
  where
    told : (b c : Bool) → (d == k) ≡ b → p d ≡ c → cond b (Some i) (position_from (λ x. x == k) (i + 1) selected) ≡ Some spot → (c || list_any p selected) ≡ false
        → (position_from (λ x. x == k) (i + 1) selected ≡ Some spot → list_any p selected ≡ false → p k ≡ false) → p k ≡ false
    told b true f g h n rest = cc
    told true false f g h n rest = let same : d ≡ k = grind (arith, nat_tests) in ap p (sym same) ∙ g
    told false false f g h n rest = rest h n

-- a flag that doesn't become implicit stays explicit
explicit_kept : (given : Option Bool) (old : Bool) → unwrap_or given false ≡ false → not old ≡ true → not (unwrap_or given old) ≡ true
explicit_kept None old e f = f
explicit_kept (Some b) old e f = ap not e

neither : (a b : Bool) → (a || b) ≡ false → (a ≡ false) × (b ≡ false)
neither true b e = cc
neither false b e = (refl, e)

nested : (a b c d : Bool) → (((a && b) && c) && d) ≡ true → (a && (b && (c && d))) ≡ true
nested true true true d e = e
nested true true false d e = e
nested true false c d e = e
nested false b c d e = e

fixed_marked : (lower upper : Option Bool) (d : Bounds) → makes_implicit lower upper ≡ false → is_fixed d ≡ true → is_fixed (marked lower upper d) ≡ true
fixed_marked lower upper d off fixed =
    let n = neither (unwrap_or lower false) (unwrap_or upper false) off in
    let p = both (not d.lo_implicit) (not d.hi_implicit && (is_index d.lo && is_index d.hi)) (regroup fixed) in
    let q = both (not d.hi_implicit) (is_index d.lo && is_index d.hi) p.1 in
    rw (explicit_kept lower d.lo_implicit n.0 p.0, explicit_kept upper d.hi_implicit n.1 q.0) q.1
  where
    regroup : is_fixed d ≡ true → (not d.lo_implicit && (not d.hi_implicit && (is_index d.lo && is_index d.hi))) ≡ true
    regroup e = nested (not d.lo_implicit) (not d.hi_implicit) (is_index d.lo) (is_index d.hi) e

fits_marked : (lower upper : Option Bool) (d : Bounds) (size : ℕ) → (makes_implicit lower upper && not (size == 1)) ≡ false → fits_dim d size ≡ true → fits_dim (marked lower upper d) size ≡ true
fits_marked lower upper d size off fit = told (size == 1) (makes_implicit lower upper) refl off fit
  where
    told : (b m : Bool) → makes_implicit lower upper ≡ m → (m && not b) ≡ false → (b || (is_fixed d && size == size_of d)) ≡ true → (b || (is_fixed (marked lower upper d) && size == size_of d)) ≡ true
    told true m e n f = refl
    told false true e n f = cc
    told false false e n f = let p = both (is_fixed d) (size == size_of d) f in both_true (is_fixed (marked lower upper d)) (size == size_of d) (fixed_marked lower upper d e p.0) p.1

-- sizes that fit dimensions fit others that they fit one by one
pub fit_others : (ds es : List Bounds) (sizes : List ℕ) → length ds ≡ length es
    → ((k : ℕ) → k < length ds → fits_dim (get_or ds k point) (get_or sizes k 1) ≡ true → fits_dim (get_or es k point) (get_or sizes k 1) ≡ true)
    → list_all (λ p. fits_dim p.0 p.1) (zip ds sizes) ≡ true → list_all (λ p. fits_dim p.0 p.1) (zip es sizes) ≡ true
fit_others [] [] sizes same each all = refl
fit_others [] (e ∷ es) sizes same each all = absurd (omega (arith, same))
fit_others (d ∷ ds) [] sizes same each all = absurd (omega (arith, same))
fit_others (d ∷ ds) (e ∷ es) [] same each all = refl
fit_others (d ∷ ds) (e ∷ es) (size ∷ sizes) same each all =
    let p = both (fits_dim d size) (list_all (λ p. fits_dim p.0 p.1) (zip ds sizes)) all in
    both_true (fits_dim e size) (list_all (λ p. fits_dim p.0 p.1) (zip es sizes)) (each 0 (omega arith) p.0)
    (fit_others ds es sizes (omega (arith, same)) (λ k less. each (suc k) (omega (arith, less))) p.1)

-- the dimensions with other flags
abbrev pub marked_dims : List Bounds → List ℕ → Option Bool → Option Bool → List Bounds
marked_dims dims selected lower upper = map (marked_dim dims selected lower upper) (range_with_len 0 (length dims))

pub length_marked : (dims : List Bounds) (selected : List ℕ) (lower upper : Option Bool) → length (marked_dims dims selected lower upper) ≡ length dims
length_marked dims selected lower upper = length-map-range_with_len (marked_dim dims selected lower upper) 0 (length dims)

marked_at : (dims : List Bounds) (selected : List ℕ) (lower upper : Option Bool) (k : ℕ) → k < length dims → get_or (marked_dims dims selected lower upper) k point ≡ marked_dim dims selected lower upper k
marked_at dims selected lower upper k less = get_or-map-range_with_len (marked_dim dims selected lower upper) 0 (length dims) k k point less (omega arith)

and_false : (a b : Bool) → b ≡ false → (a && b) ≡ false
and_false true b e = e
and_false false b e = refl

-- one map still goes from the dimensions
map_marked : (dims : List Bounds) (selected : List ℕ) (lower upper : Option Bool) (m : OutMap)
    → ((k spot : ℕ) → spot_in selected k ≡ Some spot → (makes_implicit lower upper && has_array_along k m) ≡ false)
    → is_map dims m ≡ true → is_map (marked_dims dims selected lower upper) m ≡ true
map_marked dims selected lower upper (Constant offset) apart is = refl
map_marked dims selected lower upper (Strided offset stride dim) apart is = ap (λ n. nat_lt dim n) (length_marked dims selected lower upper) ∙ is
map_marked dims selected lower upper (Indexed offset stride sizes entries) apart is =
    let p = both (fits dims sizes) (are_entries sizes entries) is in
    let q = both (length dims == length sizes) (list_all (λ p. fits_dim p.0 p.1) (zip dims sizes)) p.0 in
    let same : (length (marked_dims dims selected lower upper) == length sizes) ≡ true = ap (λ n. n == length sizes) (length_marked dims selected lower upper) ∙ q.0 in
    both_true (fits (marked_dims dims selected lower upper) sizes) (are_entries sizes entries)
    (both_true (length (marked_dims dims selected lower upper) == length sizes) _ same
    (fit_others dims (marked_dims dims selected lower upper) sizes (sym (length_marked dims selected lower upper)) each q.1)) p.1
  where
    told : (k : ℕ) (o : Option ℕ) → spot_in selected k ≡ o → fits_dim (get_or dims k point) (get_or sizes k 1) ≡ true
        → fits_dim (elim o [ Some spot ↦ marked lower upper (dim_at dims k) | None ↦ dim_at dims k ]) (get_or sizes k 1) ≡ true
    told k None e fit = fit
    told k (Some spot) e fit = fits_marked lower upper (get_or dims k point) (get_or sizes k 1) (apart k spot e) fit

    each : (k : ℕ) → k < length dims → fits_dim (get_or dims k point) (get_or sizes k 1) ≡ true → fits_dim (get_or (marked_dims dims selected lower upper) k point) (get_or sizes k 1) ≡ true
    each k less fit = ap (λ d. fits_dim d (get_or sizes k 1)) (marked_at dims selected lower upper k less) ∙ told k (spot_in selected k) refl fit

maps_marked : (dims : List Bounds) (selected : List ℕ) (lower upper : Option Bool) (maps : List OutMap)
    → ((k spot : ℕ) → spot_in selected k ≡ Some spot → (makes_implicit lower upper && list_any (has_array_along k) maps) ≡ false)
    → list_all (is_map dims) maps ≡ true → list_all (is_map (marked_dims dims selected lower upper)) maps ≡ true
maps_marked dims selected lower upper [] apart all = refl
maps_marked dims selected lower upper (m ∷ maps) apart all =
    let p = both (is_map dims m) (list_all (is_map dims) maps) all in
    both_true (is_map (marked_dims dims selected lower upper) m) _
    (map_marked dims selected lower upper m (λ k spot e. (split (makes_implicit lower upper) (has_array_along k m) (list_any (has_array_along k) maps) (apart k spot e)).0) p.0)
    (maps_marked dims selected lower upper maps (λ k spot e. (split (makes_implicit lower upper) (has_array_along k m) (list_any (has_array_along k) maps) (apart k spot e)).1) p.1)
  where
    split : (a b c : Bool) → (a && (b || c)) ≡ false → ((a && b) ≡ false) × ((a && c) ≡ false)
    split true b c e = neither b c e
    split false b c e = (refl, refl)

pub marks_kept : (u : DomainAndMaps) (selected : List ℕ) (lower upper : Option Bool) → IsTransform u → (makes_implicit lower upper && has_array_on u.maps selected) ≡ false
    → KeepsRules (with_marks u selected lower upper)
marks_kept u selected lower upper t off = record {
  ranks = ranks;
  labels = t.labels;
  maps = maps_marked u.domain.dims selected lower upper u.maps (λ k spot e. apart (makes_implicit lower upper) k spot e off) t.maps;
  plain = t.plain;
}
  where
    ranks : IsTrue (has_ranks ((with_marks u selected lower upper).domain) u.maps)
    ranks = let r = t.ranks in rw (length_marked u.domain.dims selected lower upper) r

    apart : (b : Bool) (k spot : ℕ) → spot_in selected k ≡ Some spot → (b && has_array_on u.maps selected) ≡ false → (b && list_any (has_array_along k) u.maps) ≡ false
    apart true k spot e f = none_selected (λ dim. list_any (has_array_along dim) u.maps) selected 0 k spot e f
    apart false k spot e f = refl

-- Values don't depend on flags.

spot_same : (ds es : List Bounds) (sizes : List ℕ) (index : List ℤ) → length ds ≡ length es → ((k : ℕ) → k < length ds → (get_or es k point).lo ≡ (get_or ds k point).lo)
    → entry_place es sizes index ≡ entry_place ds sizes index
spot_same [] [] sizes index same lows = refl
spot_same [] (e ∷ es) sizes index same lows = absurd (omega (arith, same))
spot_same (d ∷ ds) [] sizes index same lows = absurd (omega (arith, same))
spot_same (d ∷ ds) (e ∷ es) [] index same lows = refl
spot_same (d ∷ ds) (e ∷ es) (size ∷ sizes) [] same lows = refl
spot_same (d ∷ ds) (e ∷ es) (size ∷ sizes) (x ∷ index) same lows =
    let low : e.lo ≡ d.lo = lows 0 (omega arith) in
    let rest = spot_same ds es sizes index (omega (arith, same)) (λ k less. lows (suc k) (omega (arith, less))) in
    ap (λ low. (if size == 1 then 0 else unsigned_abs (x -ℤ low)) * cell_count sizes + entry_place es sizes index) low
    ∙ ap (λ n. entry_index d size x * cell_count sizes + n) rest

abbrev low_of : Bounds → ℤ
low_of b = b.lo

lows_marked : (dims : List Bounds) (selected : List ℕ) (lower upper : Option Bool) (k : ℕ) → k < length dims → (get_or (marked_dims dims selected lower upper) k point).lo ≡ (get_or dims k point).lo
lows_marked dims selected lower upper k less = ap low_of (marked_at dims selected lower upper k less) ∙ told (spot_in selected k)
  where
    told : (o : Option ℕ) → low_of (elim o [ Some spot ↦ marked lower upper (dim_at dims k) | None ↦ dim_at dims k ]) ≡ (get_or dims k point).lo
    told None = refl
    told (Some spot) = refl

map_value_marked : (dims : List Bounds) (selected : List ℕ) (lower upper : Option Bool) (index : List ℤ) (m : OutMap) → map_value (marked_dims dims selected lower upper) index m ≡ map_value dims index m
map_value_marked dims selected lower upper index (Constant offset) = refl
map_value_marked dims selected lower upper index (Strided offset stride dim) = refl
map_value_marked dims selected lower upper index (Indexed offset stride sizes entries) =
    ap (λ n. offset +ℤ stride *ℤ get_or entries n (pos 0))
    (spot_same dims (marked_dims dims selected lower upper) sizes index (sym (length_marked dims selected lower upper)) (lows_marked dims selected lower upper))

pub value_at-marks : (u : DomainAndMaps) (selected : List ℕ) (lower upper : Option Bool) (index : List ℤ) → value_at (with_marks u selected lower upper) index ≡ value_at u index
value_at-marks u selected lower upper index = each u.maps
  where
    each : (maps : List OutMap) → map (map_value (marked_dims u.domain.dims selected lower upper) index) maps ≡ map (map_value u.domain.dims index) maps
    each [] = refl
    each (m ∷ maps) = ap (λ x. x ∷ map (map_value (marked_dims u.domain.dims selected lower upper) index) maps) (map_value_marked u.domain.dims selected lower upper index m)
        ∙ ap (λ xs. map_value u.domain.dims index m ∷ xs) (each maps)

made : (u : DomainAndMaps) (selected : List ℕ) (lower upper : Option Bool) (t : DomainAndMaps) (b : Bool) → (if b then Err IndexDim else Ok (with_marks u selected lower upper)) ≡ Ok t
    → with_marks u selected lower upper ≡ t
made u selected lower upper t true e = cc
made u selected lower upper t false e = cc

-- the transform with other flags has the old values
pub marks_values : (u : DomainAndMaps) (selected : List ℕ) (lower upper : Option Bool) (t : DomainAndMaps) → mark_answer u selected lower upper ≡ Ok t → (index : List ℤ)
    → value_at t index ≡ value_at u index
marks_values u selected lower upper t is index =
    ap (λ v. value_at v index) (sym (made u selected lower upper t (makes_implicit lower upper && has_array_on u.maps selected) is)) ∙ value_at-marks u selected lower upper index

-- bounds stay where they are
abbrev high_of : Bounds → ℤ
high_of b = b.hi

highs_marked : (dims : List Bounds) (selected : List ℕ) (lower upper : Option Bool) (k : ℕ) → k < length dims → (get_or (marked_dims dims selected lower upper) k point).hi ≡ (get_or dims k point).hi
highs_marked dims selected lower upper k less = ap high_of (marked_at dims selected lower upper k less) ∙ told (spot_in selected k)
  where
    told : (o : Option ℕ) → high_of (elim o [ Some spot ↦ marked lower upper (dim_at dims k) | None ↦ dim_at dims k ]) ≡ (get_or dims k point).hi
    told None = refl
    told (Some spot) = refl

pub ends_marked : (dims : List Bounds) (selected : List ℕ) (lower upper : Option Bool) (k : ℕ) → k < length dims
    → ((get_or (marked_dims dims selected lower upper) k point).lo ≡ (get_or dims k point).lo) × ((get_or (marked_dims dims selected lower upper) k point).hi ≡ (get_or dims k point).hi)
ends_marked dims selected lower upper k less = (lows_marked dims selected lower upper k less, highs_marked dims selected lower upper k less)

pub marks_made : (u : DomainAndMaps) (selected : List ℕ) (lower upper : Option Bool) (t : DomainAndMaps) → mark_answer u selected lower upper ≡ Ok t → with_marks u selected lower upper ≡ t
marks_made u selected lower upper t is = made u selected lower upper t (makes_implicit lower upper && has_array_on u.maps selected) is
