-- A dimension that is passed on as it is, and an index array along a dimension of its own.
use Rattle.std.proofs.Common.{◌≡◌, ◌≢◌, ◌∙◌, zero, suc, ℕ, ◌+◌, ◌*◌, ◌<◌, ◌≤◌, ◌==◌, ◌&&◌, ◌||◌, Bool, true, false, cond, not, List, [], ◌∷◌, length, map, get_or, refl, sym, ap, subst, arith, ◌-◌, ℤ, pos, ◌≤ℤ◌, ◌+ℤ◌, ◌-ℤ◌, ◌*ℤ◌, unsigned_abs, nat_le}
use Rattle.std.proofs.Math.IntN.{*ℤ_comm, *ℤ-one, one}
use Rattle.std.proofs.lemmas.Int.{ints}
use Rattle.std.proofs.lemmas.Bool.Decides.{nat_tests}
use Rattle.std.specs.Int.RustNames.{int_lt, int_le}
use Rattle.std.specs.List.{list_all, range_with_len, zip}
use Rattle.cells.specs.Places.{cell_count}
use Rattle.index_intervals.specs.Bounds.{Bounds, AreBounds, is_index, minus_infinity, plus_infinity}
use Rattle.index_intervals.proofs.Laws.{IsIndex-true, lo_infinite, hi_infinite}
use Rattle.index_transform.specs.Maps.{fits_dim, fits}
use Rattle.transform_composition.specs.Inside.{end_inside, are_ends_inside}
use Rattle.index_transform.specs.Values.{is_effective, entry_place, entry_index}
use Rattle.index_transform.specs.Walks.{IsCell}
use Rattle.dim_expressions.specs.Arrays.{sizes_along, array_dim}
use Rattle.dim_changes.proofs.Laws.{range-length}
use Rattle.cells.proofs.Laws.{both}

pub as_it_is : (x : ℤ) → pos 0 +ℤ pos 1 *ℤ x ≡ x
unfolding one
as_it_is x = let e = *ℤ_comm (pos 1) x ∙ *ℤ-one x in omega (arith, ints, e)

-- a finite bound of an interval that isn't empty lies in it, as indexing goes
pub lies : (b : Bounds) (x : ℤ) → is_index x ≡ true → b.lo ≤ℤ x → x ≤ℤ b.hi → is_effective b x ≡ true
lies b x e l h =
    let p : int_le b.lo x ≡ true = grind (arith, ints) in
    let q : int_le x b.hi ≡ true = grind (arith, ints) in
    rw (e, p, q) (either b.lo_implicit b.hi_implicit)
  where
    either : (s t : Bool) → (true && (s || true) && (t || true)) ≡ true
    either true true = refl
    either true false = refl
    either false true = refl
    either false false = refl

-- each number of an interval lies in it
pub ends_inside-same : (b : Bounds) → AreBounds b → are_ends_inside b b (pos 0) (pos 1) ≡ true
ends_inside-same b p = told (int_lt b.hi b.lo) refl
  where
    low_open : (i : Bool) → not (is_index (cond i minus_infinity minus_infinity)) ≡ true
    low_open true = refl
    low_open false = refl

    high_open : (i : Bool) → not (is_index (cond i plus_infinity plus_infinity)) ≡ true
    high_open true = refl
    high_open false = refl

    low : b.lo ≤ℤ b.hi → (t : Bool) → is_index b.lo ≡ t → end_inside b (pos 0) (pos 1) b.lo ≡ true
    low h true e = let same = as_it_is b.lo in rw (e, same) (lies b b.lo e (omega (arith, ints)) h)
    low h false e = let inf = lo_infinite b p e in rw (e, inf) (low_open b.lo_implicit)

    high : b.lo ≤ℤ b.hi → (t : Bool) → is_index b.hi ≡ t → end_inside b (pos 0) (pos 1) b.hi ≡ true
    high h true e = let same = as_it_is b.hi in rw (e, same) (lies b b.hi e h (omega (arith, ints)))
    high h false e = let inf = hi_infinite b p e in rw (e, inf) (high_open b.hi_implicit)

    told : (t : Bool) → int_lt b.hi b.lo ≡ t → (t || (end_inside b (pos 0) (pos 1) b.lo && end_inside b (pos 0) (pos 1) b.hi)) ≡ true
    told true e = refl
    told false e =
        let h : b.lo ≤ℤ b.hi = grind (arith, ints) in
        let l = low h (is_index b.lo) refl in
        let u = high h (is_index b.hi) refl in
        rw (l, u) refl

-- entries that lie in an interval are those of a map with offset 0 and stride 1
pub entries_inside-same : (b : Bounds) (entries : List ℤ) → list_all (is_effective b) entries ≡ true
    → list_all (λ x. is_effective b (pos 0 +ℤ pos 1 *ℤ x)) entries ≡ true
entries_inside-same b [] e = refl
entries_inside-same b (x ∷ xs) e =
    let q = both (is_effective b x) (list_all (is_effective b) xs) e in
    let same = as_it_is x in
    rw (same, q.0) (entries_inside-same b xs q.1)

-- such entries are finite indices
pub entries-index : (b : Bounds) (entries : List ℤ) → list_all (is_effective b) entries ≡ true → list_all is_index entries ≡ true
entries-index b [] e = refl
entries-index b (x ∷ xs) e =
    let q = both (is_effective b x) (list_all (is_effective b) xs) e in
    let r = both (is_index x && (b.lo_implicit || int_le b.lo x)) (b.hi_implicit || int_le x b.hi) q.0 in
    let s = both (is_index x) (b.lo_implicit || int_le b.lo x) r.0 in
    rw s.0 (entries-index b xs q.1)

-- sizes that are 1 but along one dimension have as many cells as that size
ones : (a n dim len : ℕ) → dim < a → cell_count (map (λ d. cond (d == dim) len 1) (range_with_len a n)) ≡ 1
ones a zero dim len h = refl
ones a (suc n) dim len h =
    let e : (a == dim) ≡ false = grind (arith, nat_tests) in
    let r = ones (a + 1) n dim len (omega (arith, h)) in
    rw (e, r) refl

along : (a n dim len : ℕ) → a ≤ dim → dim < a + n → cell_count (map (λ d. cond (d == dim) len 1) (range_with_len a n)) ≡ len
along a zero dim len l h = absurd (omega (arith, l, h))
along a (suc n) dim len l h = told (a == dim) refl (λ less. along (a + 1) n dim len (omega (arith, l, less)) (omega (arith, h)))
  where
    told : (t : Bool) → (a == dim) ≡ t → (a ≢ dim → cell_count (map (λ d. cond (d == dim) len 1) (range_with_len (a + 1) n)) ≡ len)
        → (cond t len 1) * cell_count (map (λ d. cond (d == dim) len 1) (range_with_len (a + 1) n)) ≡ len
    told true e k =
        let same : a ≡ dim = grind (arith, nat_tests) in
        let r = ones (a + 1) n dim len (omega (arith, same)) in
        rw r (omega arith)
    told false e k =
        let r = k (grind (arith, nat_tests)) in
        rw r (omega arith)

pub cell_count-along : (rank dim len : ℕ) → dim < rank → cell_count (sizes_along rank dim len) ≡ len
cell_count-along rank dim len h = along 0 rank dim len (omega arith) (omega (arith, h))

-- at a cell an index array along one dimension is read at one of its entries
none-along : (a : ℕ) (ds : List Bounds) (cell : List ℤ) (dim len : ℕ) → dim < a
    → entry_place ds (map (λ d. cond (d == dim) len 1) (range_with_len a (length ds))) cell ≡ 0
none-along a [] cell dim len h = refl
none-along a (d ∷ ds) [] dim len h = refl
none-along a (d ∷ ds) (x ∷ cell) dim len h =
    let e : (a == dim) ≡ false = grind (arith, nat_tests) in
    let r = none-along (a + 1) ds cell dim len (omega (arith, h)) in
    rw (e, r) (omega arith)

place-from : (a : ℕ) (ds : List Bounds) (cell : List ℤ) (dim : ℕ) (entries : List ℤ) → IsCell ds cell → a ≤ dim → dim < a + length ds
    → get_or ds (dim - a) (array_dim entries) ≡ array_dim entries
    → entry_place ds (map (λ d. cond (d == dim) (length entries) 1) (range_with_len a (length ds))) cell < length entries
place-from a [] cell dim entries c l h at = absurd (omega (arith, l, h))
place-from a (d ∷ ds) [] dim entries c l h at = absurd c
place-from a (d ∷ ds) (x ∷ cell) dim entries c l h at =
    told (a == dim) refl
    (λ other.
    let more : dim - a ≡ suc (dim - (a + 1)) = omega (arith, l, other) in
    place-from (a + 1) ds cell dim entries c.2 (omega (arith, l, other)) (omega (arith, h)) (subst (λ (k : ℕ). get_or (d ∷ ds) k (array_dim entries) ≡ array_dim entries) more at))
  where
    rest : List ℕ
    rest = map (λ d. cond (d == dim) (length entries) 1) (range_with_len (a + 1) (length ds))

    here : a ≡ dim → d ≡ array_dim entries
    here e = let z : dim - a ≡ 0 = omega (arith, e) in subst (λ (k : ℕ). get_or (d ∷ ds) k (array_dim entries) ≡ array_dim entries) z at

    low : d ≡ array_dim entries → pos 0 ≤ℤ x
    low e = subst (λ (z : Bounds). z.lo ≤ℤ x) e c.0

    high : d ≡ array_dim entries → x ≤ℤ (pos (length entries) -ℤ pos 1)
    high e = subst (λ (z : Bounds). x ≤ℤ z.hi) e c.1

    index : (b : Bool) → d ≡ array_dim entries → cond b 0 (unsigned_abs (x -ℤ d.lo)) < length entries
    index true e = omega (arith, ints, low e, high e)
    index false e = let from : d.lo ≡ pos 0 = ap (λ (z : Bounds). z.lo) e in rw from (omega (arith, ints, low e, high e))

    told : (t : Bool) → (a == dim) ≡ t → (a ≢ dim → entry_place ds rest cell < length entries) → entry_index d (cond t (length entries) 1) x * cell_count rest + entry_place ds rest cell < length entries
    told true f more =
        let same : a ≡ dim = grind (arith, nat_tests) in
        let one = ones (a + 1) (length ds) dim (length entries) (omega (arith, same)) in
        let none = none-along (a + 1) ds cell dim (length entries) (omega (arith, same)) in
        let i = index (length entries == 1) (here same) in
        rw (one, none) (omega (arith, i))
    told false f more = let r = more (grind (arith, nat_tests)) in omega (arith, r)

pub place-along : (ds : List Bounds) (cell : List ℤ) (rank dim : ℕ) (entries : List ℤ) → length ds ≡ rank → dim < rank → IsCell ds cell
    → get_or ds dim (array_dim entries) ≡ array_dim entries → entry_place ds (sizes_along rank dim (length entries)) cell < length entries
place-along ds cell rank dim entries l h c at =
    subst (λ (n : ℕ). entry_place ds (sizes_along n dim (length entries)) cell < length entries) l
    (place-from 0 ds cell dim entries c (omega arith) (omega (arith, h, l)) (let z : dim - 0 ≡ dim = omega arith in rw z at))

-- the last index of a list that isn't too long
pub last-index : (entries : List ℤ) → nat_le (length entries) 4194304 ≡ true → is_index (pos (length entries) -ℤ pos 1) ≡ true
last-index entries e =
    let few : length entries ≤ 4194304 = grind (arith, nat_tests) in
    IsIndex-true (pos (length entries) -ℤ pos 1) (record { above = omega (arith, ints); below = omega (arith, ints, few) })

-- an index array along a dimension of its own fits
pub fits-along : (dims : List Bounds) (dim : ℕ) (entries : List ℤ) → is_index (pos (length entries) -ℤ pos 1) ≡ true → get_or dims dim (array_dim entries) ≡ array_dim entries
    → fits dims (sizes_along (length dims) dim (length entries)) ≡ true
fits-along dims dim entries index e =
    let l = range-length (λ d. cond (d == dim) (length entries) 1) 0 (length dims) in
    let same : (length dims == length (sizes_along (length dims) dim (length entries))) ≡ true = grind (arith, nat_tests, l) in
    rw same (each 0 dims (λ i h. let z : 0 + i ≡ i = omega arith in λ q. here i h (sym z ∙ q)))
  where
    here : (i : ℕ) → i < length dims → i ≡ dim → get_or dims i (array_dim entries) ≡ array_dim entries
    here i h q = rw q e

    fixed : fits_dim (array_dim entries) (length entries) ≡ true
    fixed =
        let size : pos (length entries) -ℤ pos 1 +ℤ pos 1 -ℤ pos 0 ≡ pos (length entries) = omega (arith, ints) in
        let same : (length entries == length entries) ≡ true = grind (arith, nat_tests) in
        rw (index, size, same) (either (length entries == 1))
      where
        either : (t : Bool) → (t || true) ≡ true
        either true = refl
        either false = refl

    each : (a : ℕ) (ds : List Bounds) → ((i : ℕ) → i < length ds → a + i ≡ dim → get_or ds i (array_dim entries) ≡ array_dim entries)
        → list_all (λ p. fits_dim p.0 p.1) (zip ds (map (λ d. cond (d == dim) (length entries) 1) (range_with_len a (length ds)))) ≡ true
    each a [] h = refl
    each a (d ∷ ds) h =
        let rest = each (a + 1) ds (λ i l q. h (suc i) (omega (arith, l)) (omega (arith, q))) in
        rw rest (told (a == dim) refl)
      where
        told : (t : Bool) → (a == dim) ≡ t → (fits_dim d (cond t (length entries) 1) && true) ≡ true
        told true q =
            let s : a + 0 ≡ dim = grind (arith, nat_tests) in
            let at : d ≡ array_dim entries = h 0 (omega arith) s in
            rw (at, fixed) refl
        told false q = refl
