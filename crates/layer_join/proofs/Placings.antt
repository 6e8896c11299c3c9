-- A transform over a new dimension keeps the rules.
use Rattle.std.proofs.Common.{◌≡◌, ◌∙◌, ◌<◌, ◌≤◌, ℕ, zero, suc, ◌+◌, ◌*◌, ◌==◌, nat_lt, nat_le, nat_eq, pos, Bool, true, false, not, cond, ◌&&◌, ◌||◌, List, [], ◌∷◌, length, map, refl, ap, arith}
use Rattle.std.proofs.lemmas.Bool.Decides.{nat_tests}
use Rattle.std.proofs.lemmas.List.{length-map}
use Rattle.std.proofs.lemmas.List.Edits.{length-insert}
use Rattle.std.specs.Cmp.Lexicographic.{pointwise}
use Rattle.std.specs.List.{list_all, list_any, zip, insert}
use Rattle.cells.specs.Places.{cell_count}
use Rattle.cells.proofs.Laws.{both, both_true}
use Rattle.index_intervals.specs.Bounds.{Bounds, are_bounds}
use Rattle.index_transform.specs.Maps.{fits_dim, fits, are_entries, is_map, is_plain, are_labels}
use Rattle.index_transform.specs.Transforms.{DomainAndMaps, IsDomain, IsTransform}
use Rattle.index_transform.specs.declared.domain.Domain.{Domain}
use Rattle.index_transform.specs.declared.map.OutMap.{OutMap}
use Rattle.index_transform.specs.declared.map.OutMap.TheVariants.{Constant, Strided, Indexed}
use Rattle.layer_join.specs.Placed.{may_place, with_axis, placed_map, placed_transform, from_on}
use Rattle.layer_join.proofs.Lists.{list_all-insert, list_any-insert}

-- a size of 1 more leaves the number of cells
pub same_count : (sizes : List ℕ) (axis : ℕ) → cell_count (insert sizes axis 1) ≡ cell_count sizes
same_count sizes zero = omega arith
same_count [] (suc axis) = refl
same_count (n ∷ sizes) (suc axis) = ap (λ k. n * k) (same_count sizes axis)

placed_fit : (dims : List Bounds) (dim : Bounds) (sizes : List ℕ) (axis : ℕ) → list_all (λ p. fits_dim p.0 p.1) (zip dims sizes) ≡ true
    → (length dims == length sizes) ≡ true → list_all (λ p. fits_dim p.0 p.1) (zip (insert dims axis dim) (insert sizes axis 1)) ≡ true
placed_fit dims dim sizes zero e same = e
placed_fit [] dim [] (suc axis) e same = refl
placed_fit [] dim (n ∷ sizes) (suc axis) e same = absurd (grind (arith, nat_tests, same))
placed_fit (d ∷ dims) dim [] (suc axis) e same = absurd (grind (arith, nat_tests, same))
placed_fit (d ∷ dims) dim (n ∷ sizes) (suc axis) e same =
    let p = both (fits_dim d n) (list_all (λ p. fits_dim p.0 p.1) (zip dims sizes)) e in
    both_true (fits_dim d n) (list_all (λ p. fits_dim p.0 p.1) (zip (insert dims axis dim) (insert sizes axis 1))) p.0
    (placed_fit dims dim sizes axis p.1 (let q : suc (length dims) ≡ suc (length sizes) = grind (arith, nat_tests, same) in grind (arith, nat_tests, q)))

placed_is_map : (dims : List Bounds) (dim : Bounds) (axis : ℕ) (m : OutMap) → axis ≤ length dims → is_map dims m ≡ true → is_map (insert dims axis dim) (placed_map axis m) ≡ true
placed_is_map dims dim axis (Constant o) inside e = refl
placed_is_map dims dim axis (Strided o s d) inside e = told (nat_lt d axis)
  where
    told : (b : Bool) → nat_lt (cond b d (d + 1)) (length (insert dims axis dim)) ≡ true
    told true = let n = length-insert dims axis dim inside in grind (arith, nat_tests, e, n)
    told false = let n = length-insert dims axis dim inside in grind (arith, nat_tests, e, n)
placed_is_map dims dim axis (Indexed o s sizes entries) inside e =
    let p = both (fits dims sizes) (are_entries sizes entries) e in
    let q = both (length dims == length sizes) (list_all (λ p. fits_dim p.0 p.1) (zip dims sizes)) p.0 in
    let same : length dims ≡ length sizes = grind (arith, nat_tests, q.0) in
    let n = length-insert dims axis dim inside in
    let m = length-insert sizes axis 1 (omega (arith, inside, same)) in
    both_true (fits (insert dims axis dim) (insert sizes axis 1)) (are_entries (insert sizes axis 1) entries)
    (both_true (length (insert dims axis dim) == length (insert sizes axis 1)) (list_all (λ p. fits_dim p.0 p.1) (zip (insert dims axis dim) (insert sizes axis 1)))
    (grind (arith, nat_tests, n, m, same)) (placed_fit dims dim sizes axis q.1 q.0))
    (rw (same_count sizes axis) p.1)

placed_are_maps : (dims : List Bounds) (dim : Bounds) (axis : ℕ) (maps : List OutMap) → axis ≤ length dims → list_all (is_map dims) maps ≡ true
    → list_all (is_map (insert dims axis dim)) (map (placed_map axis) maps) ≡ true
placed_are_maps dims dim axis [] inside e = refl
placed_are_maps dims dim axis (m ∷ ms) inside e =
    let p = both (is_map dims m) (list_all (is_map dims) ms) e in
    both_true (is_map (insert dims axis dim) (placed_map axis m)) (list_all (is_map (insert dims axis dim)) (map (placed_map axis) ms))
    (placed_is_map dims dim axis m inside p.0) (placed_are_maps dims dim axis ms inside p.1)

placed_is_plain : (axis : ℕ) (m : OutMap) → is_plain (placed_map axis m) ≡ is_plain m
placed_is_plain axis (Constant o) = refl
placed_is_plain axis (Strided o s d) = refl
placed_is_plain axis (Indexed o s sizes entries) = refl

placed_are_plain : (axis : ℕ) (maps : List OutMap) → list_all is_plain (map (placed_map axis) maps) ≡ list_all is_plain maps
placed_are_plain axis [] = refl
placed_are_plain axis (m ∷ ms) = rw (placed_is_plain axis m, placed_are_plain axis ms) refl

empty_other : (y : List ℕ) → (length y == 0) ≡ false → pointwise nat_eq [] y ≡ false
empty_other [] e = absurd (grind (arith, nat_tests, e))
empty_other (a ∷ y) e = refl

-- labels with an empty one among them
pub labels_placed : (labels : List (List ℕ)) (axis : ℕ) → are_labels labels ≡ true → are_labels (insert labels axis []) ≡ true
labels_placed labels zero e = e
labels_placed [] (suc axis) e = refl
labels_placed (l ∷ labels) (suc axis) e =
    let p = both (nat_le (length l) 64 && (length l == 0 || not (list_any (λ other. pointwise nat_eq other l) labels))) (are_labels labels) e in
    let q = both (nat_le (length l) 64) (length l == 0 || not (list_any (λ other. pointwise nat_eq other l) labels)) p.0 in
    both_true (nat_le (length l) 64 && (length l == 0 || not (list_any (λ other. pointwise nat_eq other l) (insert labels axis [])))) (are_labels (insert labels axis []))
    (both_true (nat_le (length l) 64) (length l == 0 || not (list_any (λ other. pointwise nat_eq other l) (insert labels axis []))) q.0 (once (length l == 0) refl q.1))
    (labels_placed labels axis p.1)
  where
    once : (b : Bool) → (length l == 0) ≡ b → (b || not (list_any (λ other. pointwise nat_eq other l) labels)) ≡ true
        → (b || not (list_any (λ other. pointwise nat_eq other l) (insert labels axis []))) ≡ true
    once true f g = refl
    once false f g = other (list_any (λ other. pointwise nat_eq other l) labels) refl g
      where
        other : (c : Bool) → list_any (λ other. pointwise nat_eq other l) labels ≡ c → not c ≡ true
            → not (list_any (λ other. pointwise nat_eq other l) (insert labels axis [])) ≡ true
        other true h i = absurd (let no_such : ⊥ = cc in no_such)
        other false h i = ap not (list_any-insert (λ other. pointwise nat_eq other l) labels axis [] h (empty_other l f))

pub IsDomain-placed : (axis : ℕ) (dim : Bounds) (domain : Domain) → axis ≤ length domain.dims → length domain.dims < 32 → IsDomain domain → IsDomain (with_axis axis dim domain)
IsDomain-placed axis dim domain inside small d =
    let n = length-insert domain.dims axis dim inside in
    let same = d.same in
    let m = length-insert domain.labels axis [] (omega (arith, inside, same)) in
    record {
      rank = omega (arith, n, small);
      same = omega (arith, n, m, same);
      labels = labels_placed domain.labels axis d.labels;
    }

pub IsTransform-placed : (axis place : ℕ) (t : DomainAndMaps) → axis ≤ length t.domain.dims → length t.domain.dims < 32 → are_bounds (from_on (pos place) 1) ≡ true
    → IsTransform t → IsTransform (placed_transform axis place t)
IsTransform-placed axis place t inside small b w =
    let p = both (nat_le (length t.domain.dims) 32 && (length t.domain.labels == length t.domain.dims)) (nat_le (length t.maps) 32) w.ranks in
    let q = both (nat_le (length t.domain.dims) 32) (length t.domain.labels == length t.domain.dims) p.0 in
    let same : length t.domain.labels ≡ length t.domain.dims = grind (arith, nat_tests, q.1) in
    let dim = from_on (pos place) 1 in
    let n = length-insert t.domain.dims axis dim inside in
    let m = length-insert t.domain.labels axis [] (omega (arith, inside, same)) in
    record {
      ranks =
          both_true (nat_le (length (insert t.domain.dims axis dim)) 32 && (length (insert t.domain.labels axis []) == length (insert t.domain.dims axis dim))) (nat_le (length (map (placed_map axis) t.maps)) 32)
          (both_true (nat_le (length (insert t.domain.dims axis dim)) 32) (length (insert t.domain.labels axis []) == length (insert t.domain.dims axis dim))
          (grind (arith, nat_tests, n, small)) (grind (arith, nat_tests, n, m, same)))
          (ap (λ k. nat_le k 32) (length-map t.maps (placed_map axis)) ∙ p.1);
      labels = labels_placed t.domain.labels axis w.labels;
      maps = placed_are_maps t.domain.dims dim axis t.maps inside w.maps;
      plain = placed_are_plain axis t.maps ∙ w.plain;
      bounds = list_all-insert are_bounds t.domain.dims axis dim w.bounds b;
    }

-- maps of a transform of rank 32 at most go into another dimension
pub may_place-map : (dims : List Bounds) (axis : ℕ) (m : OutMap) → axis ≤ length dims → length dims ≤ 32 → is_map dims m ≡ true → may_place axis m
may_place-map dims axis (Constant o) inside small e = tt
may_place-map dims axis (Strided o s d) inside small e = let b : d < length dims = grind (arith, nat_tests, e) in omega (arith, b, small)
may_place-map dims axis (Indexed o s sizes entries) inside small e =
    let p = both (fits dims sizes) (are_entries sizes entries) e in
    let q = both (length dims == length sizes) (list_all (λ p. fits_dim p.0 p.1) (zip dims sizes)) p.0 in
    let same : length dims ≡ length sizes = grind (arith, nat_tests, q.0) in
    omega (arith, inside, same)
