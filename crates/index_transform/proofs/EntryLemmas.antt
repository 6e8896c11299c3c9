-- The place of an index array's entry, found dimension by dimension.
use Rattle.std.proofs.lemmas.List.{length-drop}
use Rattle.std.proofs.Common.{◌≡◌, suc, ℕ, ◌+◌, ◌-◌, ◌*◌, ◌<◌, ◌≤◌, ◌==◌, Bool, true, false, cond, ◌&&◌, ◌||◌, List, [], ◌∷◌, length, drop, get_or, refl, sym, ap, subst, arith, ℤ, ◌-ℤ◌, pos, unsigned_abs, ◌*ℤ◌, FitsSigned, w64, int_le, nat_lt}
use Rattle.std.proofs.lemmas.Int.{ints, unsigned_abs-mul}
use Rattle.std.proofs.lemmas.Nat.{mul-le}
use Rattle.std.proofs.lemmas.Bool.Decides.{nat_tests}
use Rattle.std.proofs.Math.Seq.{drop-cons}
use Rattle.cells.specs.Places.{cell_count}
use Rattle.index_intervals.specs.Bounds.{Bounds}
use Rattle.index_transform.specs.Values.{entry_index, entry_place, reaches_dim, reaches}
use Rattle.cells.proofs.Laws.{both}

-- a product of two numbers of 64 bits
pub product_small : (s x : ℤ) → FitsSigned w64 s → FitsSigned w64 x → unsigned_abs (s *ℤ x) ≤ 9223372036854775808 * 9223372036854775808
product_small s x f g =
    let m = mul-le (unsigned_abs s) (unsigned_abs x) 9223372036854775808 9223372036854775808 (omega (arith, ints, f)) (omega (arith, ints, g)) in
    rw (unsigned_abs-mul s x) m

-- the entry's index along a dimension is below the size
entry_index-below : (d : Bounds) (n : ℕ) (x : ℤ) → reaches_dim d n x ≡ true → entry_index d n x < n
entry_index-below d n x e = told (n == 1) refl e
  where
    told : (b : Bool) → (n == 1) ≡ b → (b || (int_le d.lo x && nat_lt (unsigned_abs (x -ℤ d.lo)) n)) ≡ true
        → cond b 0 (unsigned_abs (x -ℤ d.lo)) < n
    told true f h = grind (arith, nat_tests)
    told false f h = let p = (both (int_le d.lo x) (nat_lt (unsigned_abs (x -ℤ d.lo)) n) h).1 in grind (arith, nat_tests)

-- the entry's place is below the number of cells
pub entry_place-below : (ds : List Bounds) (ns : List ℕ) (xs : List ℤ) → reaches ds ns xs ≡ true → entry_place ds ns xs < cell_count ns
entry_place-below [] [] [] e = omega arith
entry_place-below [] [] (x ∷ xs) e = cc
entry_place-below [] (n ∷ ns) xs e = cc
entry_place-below (d ∷ ds) [] xs e = cc
entry_place-below (d ∷ ds) (n ∷ ns) [] e = cc
entry_place-below (d ∷ ds) (n ∷ ns) (x ∷ xs) e =
    let p = both (reaches_dim d n x) (reaches ds ns xs) e in
    let i = entry_index-below d n x p.0 in
    let r = entry_place-below ds ns xs p.1 in
    placed (entry_index d n x) n (cell_count ns) (entry_place ds ns xs) i r
  where
    placed : (i n c r : ℕ) → i < n → r < c → i * c + r < n * c
    placed i n c r p q =
        let m = mul-le (suc i) c n c p (omega arith) in
        omega (arith, m)

pub reaches-lengths : (ds : List Bounds) (ns : List ℕ) (xs : List ℤ) → reaches ds ns xs ≡ true
    → (length ds ≡ length ns) × (length xs ≡ length ns)
reaches-lengths [] [] [] e = (refl, refl)
reaches-lengths [] [] (x ∷ xs) e = cc
reaches-lengths [] (n ∷ ns) xs e = cc
reaches-lengths (d ∷ ds) [] xs e = cc
reaches-lengths (d ∷ ds) (n ∷ ns) [] e = cc
reaches-lengths (d ∷ ds) (n ∷ ns) (x ∷ xs) e =
    let r = reaches-lengths ds ns xs ((both (reaches_dim d n x) (reaches ds ns xs) e).1) in
    (ap suc r.0, ap suc r.1)

-- what is left of the dimensions, behind a place so far
pub record IsAlong (ds : List Bounds) (ns : List ℕ) (xs : List ℤ) (place total : ℕ) : Type 0 where
  pub reached : reaches ds ns xs ≡ true
  pub sum : place * cell_count ns + entry_place ds ns xs ≡ total

pub IsAlong-step : (d : Bounds) (ds : List Bounds) (n : ℕ) (ns : List ℕ) (x : ℤ) (xs : List ℤ) (place total : ℕ)
    → IsAlong (d ∷ ds) (n ∷ ns) (x ∷ xs) place total → IsAlong ds ns xs (place * n + entry_index d n x) total
IsAlong-step d ds n ns x xs place total a = record {
  reached = (both (reaches_dim d n x) (reaches ds ns xs) a.reached).1;
  sum = omega (arith, a.sum);
}

-- the place so far is at most the whole
pub IsAlong-most : (ds : List Bounds) (ns : List ℕ) (xs : List ℤ) (place total : ℕ) → IsAlong ds ns xs place total → place ≤ total
IsAlong-most ds ns xs place total a =
    let b = entry_place-below ds ns xs a.reached in
    let m = mul-le place 1 place (cell_count ns) (omega arith) (omega (arith, b)) in
    omega (arith, m, a.sum)

-- one dimension further in the whole lists
pub IsAlong-next : (ds : List Bounds) (ns : List ℕ) (xs : List ℤ) (k place total : ℕ) (d : Bounds) → k < length ns
    → IsAlong (drop k ds) (drop k ns) (drop k xs) place total → d ≡ get_or ds k d
    → IsAlong (drop (k + 1) ds) (drop (k + 1) ns) (drop (k + 1) xs)
    (place * get_or ns k 0 + entry_index d (get_or ns k 0) (get_or xs k (pos 0))) total
IsAlong-next ds ns xs k place total d h a e =
    let l = reaches-lengths (drop k ds) (drop k ns) (drop k xs) a.reached in
    let below_ds : k < length ds = omega (arith, l.0, length-drop k ds, length-drop k ns) in
    let below_xs : k < length xs = omega (arith, l.1, length-drop k xs, length-drop k ns) in
    let a2 = (rw (drop-cons ds k d below_ds, drop-cons ns k 0 h, drop-cons xs k (pos 0) below_xs) at a) in
    let s = IsAlong-step (get_or ds k d) (drop (suc k) ds) (get_or ns k 0) (drop (suc k) ns) (get_or xs k (pos 0)) (drop (suc k) xs) place total a2 in
    let one : k + 1 ≡ suc k = omega arith in
    rw one (subst (λ (z : Bounds). IsAlong (drop (suc k) ds) (drop (suc k) ns) (drop (suc k) xs) (place * get_or ns k 0 + entry_index z (get_or ns k 0) (get_or xs k (pos 0))) total) (sym e) s)

-- past the last dimension the place is the whole
pub IsAlong-end : (ds : List Bounds) (ns : List ℕ) (xs : List ℤ) (k place total : ℕ) → k ≡ length ns
    → IsAlong (drop k ds) (drop k ns) (drop k xs) place total → place ≡ total
IsAlong-end ds ns xs k place total h a = ended (drop k ds) (drop k ns) (drop k xs) (length-drop k ns) a
  where
    ended : (ds : List Bounds) (ns' : List ℕ) (xs : List ℤ) → length ns' ≡ length ns - k → IsAlong ds ns' xs place total → place ≡ total
    ended [] [] [] l a = omega (arith, a.sum)
    ended [] [] (x ∷ xs) l a = let f = a.reached in cc
    ended [] (n ∷ ns') xs l a = absurd (omega (arith, l))
    ended (d ∷ ds) [] xs l a = let f = a.reached in cc
    ended (d ∷ ds) (n ∷ ns') xs l a = absurd (omega (arith, l))

-- the place so far times the next size is at most the whole
pub IsAlong-product : (ds : List Bounds) (ns : List ℕ) (xs : List ℤ) (k place total : ℕ) → k < length ns
    → IsAlong (drop k ds) (drop k ns) (drop k xs) place total → place * get_or ns k 0 ≤ total
IsAlong-product ds ns xs k place total h a =
    let l = reaches-lengths (drop k ds) (drop k ns) (drop k xs) a.reached in
    let below_ds : k < length ds = omega (arith, l.0, length-drop k ds, length-drop k ns) in
    let below_xs : k < length xs = omega (arith, l.1, length-drop k xs, length-drop k ns) in
    let d : Bounds = record { lo = pos 0; hi = pos 0; lo_implicit = false; hi_implicit = false } in
    let a2 = (rw (drop-cons ds k d below_ds, drop-cons ns k 0 h, drop-cons xs k (pos 0) below_xs) at a) in
    let s = IsAlong-step (get_or ds k d) (drop (suc k) ds) (get_or ns k 0) (drop (suc k) ns) (get_or xs k (pos 0)) (drop (suc k) xs) place total a2 in
    let m = IsAlong-most (drop (suc k) ds) (drop (suc k) ns) (drop (suc k) xs) (place * get_or ns k 0 + entry_index (get_or ds k d) (get_or ns k 0) (get_or xs k (pos 0))) total s in
    omega (arith, m)
