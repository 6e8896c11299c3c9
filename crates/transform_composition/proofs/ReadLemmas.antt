-- Reading an index array at the values of maps.
use Rattle.std.proofs.Common.{◌≡◌, ◌≢◌, ◌∙◌, zero, suc, ℕ, ◌+◌, ◌<◌, ◌==◌, Bool, true, false, cond, ◌&&◌, ◌||◌, List, [], ◌∷◌, length, map, drop, get_or, refl, sym, ap, subst, arith, ℤ, pos, ◌-ℤ◌, ◌≤ℤ◌, int_le, nat_lt, unsigned_abs}
use Rattle.std.proofs.lemmas.Int.{ints}
use Rattle.std.proofs.lemmas.List.{get_or-map, length-drop}
use Rattle.std.proofs.lemmas.Bool.Decides.{nat_tests}
use Rattle.std.proofs.Math.Seq.{drop-cons}
use Rattle.std.specs.List.{list_all, zip}
use Rattle.index_transform.specs.Bounds.{Bounds}
use Rattle.index_transform.specs.declared.map.OutMap.{OutMap}
use Rattle.index_transform.specs.Walks.{IsCell}
use Rattle.index_transform.specs.Values.{entry_index, reaches_dim, reaches, has_value, map_value}
use Rattle.transform_composition.specs.Reading.{is_read_along, read_dims, point, can_read}
use Rattle.index_transform.proofs.Laws.{IsAlong, reaches-lengths}
use Rattle.index_transform.proofs.Laws.{both}

-- the value of the map at a place
pub get_or-mapped : (f : OutMap → ℤ) (maps : List OutMap) (k : ℕ) (m : OutMap) → k < length maps → m ≡ get_or maps k m
    → get_or (map f maps) k (pos 0) ≡ f m
get_or-mapped f maps k m h e = get_or-map f maps k m (pos 0) h ∙ ap f (sym e)

-- an array that is reached is reached along each dimension
pub IsAlong-reached : (ds : List Bounds) (ns : List ℕ) (xs : List ℤ) (k place total : ℕ) (d : Bounds) → k < length ns
    → IsAlong (drop k ds) (drop k ns) (drop k xs) place total → d ≡ get_or ds k d → reaches_dim d (get_or ns k 0) (get_or xs k (pos 0)) ≡ true
IsAlong-reached ds ns xs k place total d h a e =
    let l = reaches-lengths (drop k ds) (drop k ns) (drop k xs) a.reached in
    let below_ds : k < length ds = omega (arith, l.0, length-drop k ds, length-drop k ns) in
    let below_xs : k < length xs = omega (arith, l.1, length-drop k xs, length-drop k ns) in
    let r = (rw (drop-cons ds k d below_ds, drop-cons ns k 0 h, drop-cons xs k (pos 0) below_xs) at a.reached) in
    let t = (both (reaches_dim (get_or ds k d) (get_or ns k 0) (get_or xs k (pos 0))) (reaches (drop (suc k) ds) (drop (suc k) ns) (drop (suc k) xs)) r).0 in
    subst (λ (z : Bounds). reaches_dim z (get_or ns k 0) (get_or xs k (pos 0)) ≡ true) (sym e) t

-- an index along which an array is read lies above the lower bound
pub reached_above : (d : Bounds) (y : ℤ) (n : ℕ) → n ≢ 1 → reaches_dim d n y ≡ true → (d.lo ≤ℤ y) × (unsigned_abs (y -ℤ d.lo) < n)
reached_above d y n h e = told (n == 1) refl e
  where
    told : (b : Bool) → (n == 1) ≡ b → (b || (int_le d.lo y && nat_lt (unsigned_abs (y -ℤ d.lo)) n)) ≡ true → (d.lo ≤ℤ y) × (unsigned_abs (y -ℤ d.lo) < n)
    told true f g = absurd (h (grind (arith, nat_tests, f)))
    told false f g =
        let p = both (int_le d.lo y) (nat_lt (unsigned_abs (y -ℤ d.lo)) n) g in
        let a : d.lo ≤ℤ y = grind (arith, ints, p.0) in
        let b : unsigned_abs (y -ℤ d.lo) < n = grind (arith, nat_tests, p.1) in
        (a, b)

pub entry_index-other : (d : Bounds) (y : ℤ) (n : ℕ) → n ≢ 1 → entry_index d n y ≡ unsigned_abs (y -ℤ d.lo)
entry_index-other d y n h = told (n == 1) refl
  where
    told : (b : Bool) → (n == 1) ≡ b → cond b 0 (unsigned_abs (y -ℤ d.lo)) ≡ unsigned_abs (y -ℤ d.lo)
    told true f = absurd (h (grind (arith, nat_tests, f)))
    told false f = refl

-- a cell of the dimensions along which an array is read lies between their bounds, and has their number of indices
pub read_cell-length : (sizes : List ℕ) (ms : List OutMap) (k : ℕ) (ds : List Bounds) (xs : List ℤ) → IsCell (read_dims k ds sizes ms) xs → length xs ≡ length ds
read_cell-length sizes ms k [] [] c = refl
read_cell-length sizes ms k [] (x ∷ xs) c = absurd c
read_cell-length sizes ms k (d ∷ ds) [] c = absurd c
read_cell-length sizes ms k (d ∷ ds) (x ∷ xs) c = ap suc (read_cell-length sizes ms (k + 1) ds xs c.2)

pub read_cell-between : (sizes : List ℕ) (ms : List OutMap) (k : ℕ) (ds : List Bounds) (xs : List ℤ) (i : ℕ) (e : Bounds) → IsCell (read_dims k ds sizes ms) xs
    → i < length ds → is_read_along sizes ms (k + i) ≡ true → ((get_or ds i e).lo ≤ℤ get_or xs i (pos 0)) × (get_or xs i (pos 0) ≤ℤ (get_or ds i e).hi)
read_cell-between sizes ms k [] xs i e c h r = absurd (omega (arith, h))
read_cell-between sizes ms k (d ∷ ds) [] i e c h r = absurd c
read_cell-between sizes ms k (d ∷ ds) (x ∷ xs) zero e c h r =
    let z : k + 0 ≡ k = omega arith in
    let t = (rw z at r) in
    told (is_read_along sizes ms k) t c.0 c.1
  where
    told : (b : Bool) → b ≡ true → ((cond b d point).lo ≤ℤ x) → (x ≤ℤ (cond b d point).hi) → (d.lo ≤ℤ x) × (x ≤ℤ d.hi)
    told true f l m = (l, m)
    told false f l m = cc
read_cell-between sizes ms k (d ∷ ds) (x ∷ xs) (suc i) e c h r =
    let z : k + suc i ≡ (k + 1) + i = omega arith in
    read_cell-between sizes ms (k + 1) ds xs i e c.2 (omega (arith, h)) ((rw z at r))

-- what it takes to read an array
pub readable : (os : List Bounds) (ns : List ℕ) (ds : List Bounds) (ms : List OutMap) (xs : List ℤ) → can_read os ns ds ms xs ≡ true
    → (list_all (λ p. p.0 == 1 || has_value ds xs p.1) (zip ns ms) ≡ true) × (reaches os ns (map (map_value ds xs) ms) ≡ true)
readable os ns ds ms xs e = both (list_all (λ p. p.0 == 1 || has_value ds xs p.1) (zip ns ms)) (reaches os ns (map (map_value ds xs) ms)) e
