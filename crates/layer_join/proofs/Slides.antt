-- A transform of which one dimension is moved keeps the rules.
use Rattle.std.proofs.Common.{◌≡◌, ◌∙◌, ℕ, zero, suc, ◌==◌, nat_lt, ℤ, pos, ◌+ℤ◌, ◌-ℤ◌, unsigned_abs, Bool, true, false, not, cond, ◌&&◌, ◌||◌, List, [], ◌∷◌, length, map, get_or, refl, ap, arith}
use Rattle.std.proofs.lemmas.Int.{ints}
use Rattle.std.proofs.lemmas.List.{length-map, length-set}
use Rattle.std.specs.List.{list_all, zip}
use Rattle.cells.proofs.Laws.{both, both_true}
use Rattle.index_intervals.specs.Bounds.{Bounds, IsIndex, is_index, are_bounds}
use Rattle.index_intervals.specs.Members.{size_of}
use Rattle.index_intervals.proofs.Laws.{IsIndex-true, are_bounds-true, AreBounds-true}
use Rattle.index_transform.specs.Maps.{is_fixed, fits_dim, fits, are_entries, is_map, is_plain}
use Rattle.index_transform.specs.Transforms.{DomainAndMaps, IsTransform}
use Rattle.index_transform.specs.declared.map.OutMap.{OutMap}
use Rattle.index_transform.specs.declared.map.OutMap.TheVariants.{Constant, Strided, Indexed}
use Rattle.stack_driver.specs.Reading.{point}
use Rattle.layer_join.specs.Slid.{slid, slid_dims, slid_offset, slid_map, slid_transform}
use Rattle.layer_join.proofs.Lists.{list_all-set}

-- the moved bounds are finite indices
pub record IsSlid (dim : Bounds) (by : ℤ) : Type 0 where
  pub lo : IsIndex (dim.lo +ℤ by)
  pub hi : IsIndex (dim.hi +ℤ by)

same_size : (dim : Bounds) (by : ℤ) → size_of (slid by dim) ≡ size_of dim
same_size dim by =
    let e : (dim.hi +ℤ by) +ℤ pos 1 -ℤ (dim.lo +ℤ by) ≡ dim.hi +ℤ pos 1 -ℤ dim.lo = omega (arith, ints) in ap unsigned_abs e

pub slid_bounds : (dim : Bounds) (by : ℤ) → IsSlid dim by → are_bounds dim ≡ true → are_bounds (slid by dim) ≡ true
slid_bounds dim by s e =
    let b = AreBounds-true dim e in
    let l = s.lo in
    let h = s.hi in
    are_bounds-true (slid by dim) (record { lo_from = omega (arith, ints); lo_below = omega (arith, ints); hi_above = omega (arith, ints); hi_to = omega (arith, ints); ordered = omega (arith, ints) })

slid_fits_dim : (dim : Bounds) (by : ℤ) (n : ℕ) → IsSlid dim by → fits_dim dim n ≡ true → fits_dim (slid by dim) n ≡ true
slid_fits_dim dim by n s e = told (n == 1) e
  where
    told : (b : Bool) → (b || (is_fixed dim && n == size_of dim)) ≡ true → (b || (is_fixed (slid by dim) && n == size_of (slid by dim))) ≡ true
    told true f = refl
    told false f =
        let p = both (is_fixed dim) (n == size_of dim) f in
        let q = both (not dim.lo_implicit && not dim.hi_implicit && is_index dim.lo) (is_index dim.hi) p.0 in
        let r = both (not dim.lo_implicit && not dim.hi_implicit) (is_index dim.lo) q.0 in
        both_true (is_fixed (slid by dim)) (n == size_of (slid by dim))
        (both_true (not dim.lo_implicit && not dim.hi_implicit && is_index (dim.lo +ℤ by)) (is_index (dim.hi +ℤ by))
        (both_true (not dim.lo_implicit && not dim.hi_implicit) (is_index (dim.lo +ℤ by)) r.0 (IsIndex-true (dim.lo +ℤ by) s.lo))
        (IsIndex-true (dim.hi +ℤ by) s.hi))
        (ap (λ m. n == m) (same_size dim by) ∙ p.1)

slid_fit : (axis : ℕ) (by : ℤ) (dims : List Bounds) (sizes : List ℕ) → IsSlid (get_or dims axis point) by
    → list_all (λ p. fits_dim p.0 p.1) (zip dims sizes) ≡ true → list_all (λ p. fits_dim p.0 p.1) (zip (slid_dims axis by dims) sizes) ≡ true
slid_fit axis by [] sizes s e = refl
slid_fit zero by (d ∷ dims) [] s e = refl
slid_fit (suc axis) by (d ∷ dims) [] s e = refl
slid_fit zero by (d ∷ dims) (n ∷ sizes) s e =
    let p = both (fits_dim d n) (list_all (λ p. fits_dim p.0 p.1) (zip dims sizes)) e in
    both_true (fits_dim (slid by d) n) (list_all (λ p. fits_dim p.0 p.1) (zip dims sizes)) (slid_fits_dim d by n s p.0) p.1
slid_fit (suc axis) by (d ∷ dims) (n ∷ sizes) s e =
    let p = both (fits_dim d n) (list_all (λ p. fits_dim p.0 p.1) (zip dims sizes)) e in
    both_true (fits_dim d n) (list_all (λ p. fits_dim p.0 p.1) (zip (slid_dims axis by dims) sizes)) p.0 (slid_fit axis by dims sizes s p.1)

pub length-slid_dims : (axis : ℕ) (by : ℤ) (dims : List Bounds) → length (slid_dims axis by dims) ≡ length dims
length-slid_dims axis by dims = length-set dims axis (slid by (get_or dims axis point))

slid_is_map : (axis : ℕ) (by : ℤ) (dims : List Bounds) (m : OutMap) → IsSlid (get_or dims axis point) by → is_map dims m ≡ true → is_map (slid_dims axis by dims) (slid_map axis by m) ≡ true
slid_is_map axis by dims (Constant o) s e = refl
slid_is_map axis by dims (Strided o stride d) s e = told (d == axis)
  where
    below : nat_lt d (length (slid_dims axis by dims)) ≡ true
    below = ap (λ n. nat_lt d n) (length-slid_dims axis by dims) ∙ e

    told : (b : Bool) → is_map (slid_dims axis by dims) (cond b (Strided (slid_offset by o stride) stride d) (Strided o stride d)) ≡ true
    told true = below
    told false = below
slid_is_map axis by dims (Indexed o stride sizes entries) s e =
    let p = both (fits dims sizes) (are_entries sizes entries) e in
    let q = both (length dims == length sizes) (list_all (λ p. fits_dim p.0 p.1) (zip dims sizes)) p.0 in
    both_true (fits (slid_dims axis by dims) sizes) (are_entries sizes entries)
    (both_true (length (slid_dims axis by dims) == length sizes) (list_all (λ p. fits_dim p.0 p.1) (zip (slid_dims axis by dims) sizes))
    (ap (λ n. n == length sizes) (length-slid_dims axis by dims) ∙ q.0) (slid_fit axis by dims sizes s q.1))
    p.1

slid_are_maps : (axis : ℕ) (by : ℤ) (dims : List Bounds) (maps : List OutMap) → IsSlid (get_or dims axis point) by → list_all (is_map dims) maps ≡ true
    → list_all (is_map (slid_dims axis by dims)) (map (slid_map axis by) maps) ≡ true
slid_are_maps axis by dims [] s e = refl
slid_are_maps axis by dims (m ∷ ms) s e =
    let p = both (is_map dims m) (list_all (is_map dims) ms) e in
    both_true (is_map (slid_dims axis by dims) (slid_map axis by m)) (list_all (is_map (slid_dims axis by dims)) (map (slid_map axis by) ms))
    (slid_is_map axis by dims m s p.0) (slid_are_maps axis by dims ms s p.1)

slid_is_plain : (axis : ℕ) (by : ℤ) (m : OutMap) → is_plain (slid_map axis by m) ≡ is_plain m
slid_is_plain axis by (Constant o) = refl
slid_is_plain axis by (Strided o stride d) = told (d == axis)
  where
    told : (b : Bool) → is_plain (cond b (Strided (slid_offset by o stride) stride d) (Strided o stride d)) ≡ is_plain (Strided o stride d)
    told true = refl
    told false = refl
slid_is_plain axis by (Indexed o stride sizes entries) = refl

slid_are_plain : (axis : ℕ) (by : ℤ) (maps : List OutMap) → list_all is_plain (map (slid_map axis by) maps) ≡ list_all is_plain maps
slid_are_plain axis by [] = refl
slid_are_plain axis by (m ∷ ms) = rw (slid_is_plain axis by m, slid_are_plain axis by ms) refl

pub IsTransform-slid : (axis : ℕ) (by : ℤ) (t : DomainAndMaps) → IsSlid (get_or t.domain.dims axis point) by → are_bounds (get_or t.domain.dims axis point) ≡ true → IsTransform t
    → IsTransform (slid_transform axis by t)
IsTransform-slid axis by t s b w = record {
  ranks = rw (length-slid_dims axis by t.domain.dims, length-map t.maps (slid_map axis by)) w.ranks;
  labels = w.labels;
  maps = slid_are_maps axis by t.domain.dims t.maps s w.maps;
  plain = slid_are_plain axis by t.maps ∙ w.plain;
  bounds = list_all-set are_bounds t.domain.dims axis (slid by (get_or t.domain.dims axis point)) w.bounds (slid_bounds (get_or t.domain.dims axis point) by s b);
}
