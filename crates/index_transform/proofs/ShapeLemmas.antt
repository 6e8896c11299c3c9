-- An output leaves a size at some cell where it does so at the ends of its map.
use Rattle.std.proofs.Common.{◌≡◌, ◌∙◌, zero, suc, ℕ, ◌+◌, ◌<◌, ◌==◌, nat_le, int_le, Bool, true, false, not, ◌&&◌, ◌||◌, cond, List, [], ◌∷◌, ◌++◌, length, map, get_or, refl, sym, ap, inl, inr, ◌⊎◌, arith, ℤ, pos, negsuc, ◌+ℤ◌, ◌-ℤ◌, ◌*ℤ◌, ◌≤ℤ◌, ◌<ℤ◌, unsigned_abs, None, Some}
use Rattle.std.proofs.lemmas.Int.{ints}
use Rattle.std.proofs.lemmas.Bool.Decides.{nat_tests}
use Rattle.std.proofs.lemmas.List.{get_or-map}
use Rattle.std.specs.List.{list_all, list_any, zip, flat_map, position_from, AllByRecursion}
use Rattle.cells.specs.Places.{cell_count, c_place, c_index, IsInside}
use Rattle.cells.proofs.Laws.{not_both, both, both_true, either_true, both_false, same_test, not_true, IsInside-c_index, c_place-c_index}
use Rattle.index_intervals.specs.Bounds.{Bounds, is_index, is_ordered, are_bounds}
use Rattle.index_transform.specs.declared.map.OutMap.{OutMap}
use Rattle.index_transform.specs.declared.map.OutMap.TheVariants.{Constant, Strided, Indexed}
use Rattle.index_transform.specs.Maps.{size_of, is_fixed, fits_dim, fits, are_entries, is_map}
use Rattle.index_transform.specs.Cells.{counting, cells_of}
use Rattle.index_transform.specs.Walks.{IsCell, IsNonEmpty}
use Rattle.index_transform.specs.Values.{entry_index, entry_place, map_value, reaches_dim, reaches}
use Rattle.index_transform.specs.Shapes.{IsInShape, is_below, leaves, ends_leave}
use Rattle.index_transform.proofs.CellLemmas.{AreCells, AreCells-cells_of}
use Rattle.index_transform.proofs.EntryLemmas.{entry_place-below}
use Rattle.index_transform.proofs.InsideLemmas.{reaches_between}
use Rattle.index_transform.proofs.NumberLemmas.{between_up, between_down}

-- tests of some of a list
any-append : {X : Type 0} (p : X → Bool) (xs ys : List X) → list_any p (xs ++ ys) ≡ (list_any p xs || list_any p ys)
any-append p [] ys = refl
any-append p (x ∷ xs) ys = told (p x) (any-append p xs ys)
  where
    told : (b : Bool) → list_any p (xs ++ ys) ≡ (list_any p xs || list_any p ys) → (b || list_any p (xs ++ ys)) ≡ ((b || list_any p xs) || list_any p ys)
    told true h = refl
    told false h = h

any-map : {X Y : Type 0} (p : Y → Bool) (f : X → Y) (xs : List X) → list_any p (map f xs) ≡ list_any (λ x. p (f x)) xs
any-map p f [] = refl
any-map p f (x ∷ xs) = ap (λ b. p (f x) || b) (any-map p f xs)

first_any : (a b : Bool) → a ≡ true → (a || b) ≡ true
first_any true b e = refl
first_any false b e = absurd (let no_such : ⊥ = cc in no_such)

second_any : (a b : Bool) → b ≡ true → (a || b) ≡ true
second_any true b e = refl
second_any false b e = e

any-at : {X : Type 0} (p : X → Bool) (xs : List X) (k : ℕ) (d : X) → k < length xs → p (get_or xs k d) ≡ true → list_any p xs ≡ true
any-at p [] k d h e = absurd (omega (arith, h))
any-at p (x ∷ xs) zero d h e = first_any (p x) (list_any p xs) e
any-at p (x ∷ xs) (suc k) d h e = second_any (p x) (list_any p xs) (any-at p xs k d (omega (arith, h)) e)

some-at : {X : Type 0} (p : X → Bool) (xs : List X) (d : X) → list_any p xs ≡ true → (k : ℕ) × (k < length xs) × (p (get_or xs k d) ≡ true)
some-at p [] d e = absurd (let no_such : ⊥ = cc in no_such)
some-at p (x ∷ xs) d e =
    elim (either_true (p x) (list_any p xs) e) [
      | inl h ↦ (0, omega arith, h)
      | inr h ↦ let r = some-at p xs d h.1 in (suc r.0, omega (arith, r.1), r.2)
    ]

-- a test that holds at a cell holds at some cell
any-counting : (p : List ℤ → Bool) (a : List (List ℤ)) (x y : ℤ) (n : ℕ) → y ≤ℤ x → x <ℤ (y +ℤ pos n) → list_any (λ cell. p (x ∷ cell)) a ≡ true
    → list_any p (flat_map (λ z. map (λ cell. z ∷ cell) a) (counting y n)) ≡ true
any-counting p a x y zero l h e = absurd (omega (arith, ints, l, h))
any-counting p a x y (suc n) l h e =
    any-append p (map (λ cell. y ∷ cell) a) rest
    ∙ at (here_or_later x y l) (λ m. any-counting p a x (y +ℤ pos 1) n m (omega (arith, ints, h)) e)
  where
    rest : List (List ℤ)
    rest = flat_map (λ z. map (λ cell. z ∷ cell) a) (counting (y +ℤ pos 1) n)

    here_or_later : (x y : ℤ) → y ≤ℤ x → (x ≡ y) ⊎ ((y +ℤ pos 1) ≤ℤ x)
    here_or_later x y l = grind (arith, ints)

    at : ((x ≡ y) ⊎ ((y +ℤ pos 1) ≤ℤ x)) → ((y +ℤ pos 1) ≤ℤ x → list_any p rest ≡ true) → (list_any p (map (λ cell. y ∷ cell) a) || list_any p rest) ≡ true
    at (inl s) later =
        first_any (list_any p (map (λ cell. y ∷ cell) a)) (list_any p rest)
        (any-map p (λ cell. y ∷ cell) a ∙ ap (λ (v : ℤ). list_any (λ cell. p (v ∷ cell)) a) (sym s) ∙ e)
    at (inr m) later = second_any (list_any p (map (λ cell. y ∷ cell) a)) (list_any p rest) (later m)

pub any-cell : (p : List ℤ → Bool) (ds : List Bounds) (cell : List ℤ) → IsCell ds cell → p cell ≡ true → list_any p (cells_of ds) ≡ true
any-cell p [] [] c e = first_any (p []) false e
any-cell p [] (x ∷ xs) c e = absurd c
any-cell p (d ∷ ds) [] c e = absurd c
any-cell p (d ∷ ds) (x ∷ xs) c e =
    let l = c.0 in
    let h = c.1 in
    any-counting p (cells_of ds) x d.lo (size_of d) l (omega (arith, ints, l, h)) (any-cell (λ cell. p (x ∷ cell)) ds xs c.2 e)

-- and a test that holds at some cell has one
some-of : (p : List ℤ → Bool) (ds : List Bounds) (cells : List (List ℤ)) → AreCells ds cells → list_any p cells ≡ true → (cell : List ℤ) × IsCell ds cell × (p cell ≡ true)
some-of p ds [] a e = absurd (let no_such : ⊥ = cc in no_such)
some-of p ds (cell ∷ cells) a e =
    elim (either_true (p cell) (list_any p cells) e) [ inl h ↦ (cell, a.0, h) | inr h ↦ some-of p ds cells a.1 h.1 ]

ordered : (ds : List Bounds) → list_all are_bounds ds ≡ true → list_all is_ordered ds ≡ true
ordered [] e = refl
ordered (d ∷ ds) e =
    let p = both (are_bounds d) (list_all are_bounds ds) e in
    both_true (is_ordered d) (list_all is_ordered ds) (one d p.0) (ordered ds p.1)
  where
    one : (d : Bounds) → are_bounds d ≡ true → is_ordered d ≡ true
    one d e = grind (arith, ints, e)

pub some-cell : (p : List ℤ → Bool) (ds : List Bounds) → list_all are_bounds ds ≡ true → list_any p (cells_of ds) ≡ true → (cell : List ℤ) × IsCell ds cell × (p cell ≡ true)
some-cell p ds b e = some-of p ds (cells_of ds) (AreCells-cells_of ds (ordered ds b)) e

-- the first and the last cell
pub IsCell-first : (ds : List Bounds) → IsNonEmpty ds → IsCell ds (map (λ d. d.lo) ds)
IsCell-first [] n = tt
IsCell-first (d ∷ ds) n = (omega (arith, ints), n.0, IsCell-first ds n.1)

pub IsCell-last : (ds : List Bounds) → IsNonEmpty ds → IsCell ds (map (λ d. d.hi) ds)
IsCell-last [] n = tt
IsCell-last (d ∷ ds) n = (n.0, omega (arith, ints), IsCell-last ds n.1)

-- along each dimension a cell lies between the two
between-ends : (ds : List Bounds) (cell : List ℤ) (k : ℕ) → IsCell ds cell
    → (get_or (map (λ d. d.lo) ds) k (pos 0) ≤ℤ get_or cell k (pos 0)) × (get_or cell k (pos 0) ≤ℤ get_or (map (λ d. d.hi) ds) k (pos 0))
between-ends [] [] k c = (omega (arith, ints), omega (arith, ints))
between-ends [] (x ∷ xs) k c = absurd c
between-ends (d ∷ ds) [] k c = absurd c
between-ends (d ∷ ds) (x ∷ xs) zero c = (c.0, c.1)
between-ends (d ∷ ds) (x ∷ xs) (suc k) c = between-ends ds xs k c.2

-- a number between two that are below the size is one, too
below-between : (size : ℕ) (a x b : ℤ) → a ≤ℤ x → x ≤ℤ b → is_below size a ≡ true → is_below size b ≡ true → is_below size x ≡ true
below-between size a x b l h p q = grind (arith, ints, p, q)

below-scaled : (size : ℕ) (o s a x b : ℤ) → a ≤ℤ x → x ≤ℤ b → is_below size (o +ℤ s *ℤ a) ≡ true → is_below size (o +ℤ s *ℤ b) ≡ true → is_below size (o +ℤ s *ℤ x) ≡ true
below-scaled size o (pos k) a x b l h p q =
    let t = between_up o (pos k) a x b (omega (arith, ints)) l h in
    below-between size (o +ℤ pos k *ℤ a) (o +ℤ pos k *ℤ x) (o +ℤ pos k *ℤ b) t.0 t.1 p q
below-scaled size o (negsuc k) a x b l h p q =
    let t = between_down o k a x b l h in
    below-between size (o +ℤ negsuc k *ℤ b) (o +ℤ negsuc k *ℤ x) (o +ℤ negsuc k *ℤ a) t.0 t.1 q p

twice_not : (b : Bool) → not b ≡ false → b ≡ true
twice_not true e = refl
twice_not false e = absurd (let no_such : ⊥ = cc in no_such)

-- the cell at the indices of an array's entry
cell_from : List Bounds → List ℕ → List ℤ
cell_from [] is = []
cell_from (d ∷ ds) [] = []
cell_from (d ∷ ds) (i ∷ is) = (d.lo +ℤ pos i) ∷ cell_from ds is

-- an index along which an array has an entry is one of the dimension
within : (d : Bounds) (n i : ℕ) → d.lo ≤ℤ d.hi → fits_dim d n ≡ true → i < n → (d.lo +ℤ pos i) ≤ℤ d.hi
within d n i o f h = told (n == 1) refl f
  where
    told : (b : Bool) → (n == 1) ≡ b → (b || (is_fixed d && n == size_of d)) ≡ true → (d.lo +ℤ pos i) ≤ℤ d.hi
    told true e g = let one : n ≡ 1 = grind (arith, nat_tests, e) in omega (arith, ints, o, h, one)
    told false e g =
        let p = both (is_fixed d) (n == size_of d) g in
        let size : n ≡ size_of d = grind (arith, nat_tests, p.1) in
        omega (arith, ints, o, h, size)

entry_index-from : (d : Bounds) (n i : ℕ) → i < n → entry_index d n (d.lo +ℤ pos i) ≡ i
entry_index-from d n i h = told (n == 1) refl
  where
    told : (b : Bool) → (n == 1) ≡ b → cond b 0 (unsigned_abs (d.lo +ℤ pos i -ℤ d.lo)) ≡ i
    told true e = let one : n ≡ 1 = grind (arith, nat_tests, e) in omega (arith, h, one)
    told false e = omega (arith, ints)

IsCell-from : (ds : List Bounds) (ns is : List ℕ) → IsNonEmpty ds → list_all (λ p. fits_dim p.0 p.1) (zip ds ns) ≡ true → length ds ≡ length ns → IsInside ns is → IsCell ds (cell_from ds is)
unfolding cell_from
IsCell-from [] [] [] n f l i = tt
IsCell-from [] [] (i ∷ is) n f l h = absurd h
IsCell-from [] (m ∷ ns) is n f l h = absurd (omega (arith, l))
IsCell-from (d ∷ ds) [] is n f l h = absurd (omega (arith, l))
IsCell-from (d ∷ ds) (m ∷ ns) [] n f l h = absurd h
IsCell-from (d ∷ ds) (m ∷ ns) (i ∷ is) n f l h =
    let p = both (fits_dim d m) (list_all (λ p. fits_dim p.0 p.1) (zip ds ns)) f in
    (omega (arith, ints), within d m i n.0 p.0 h.0, IsCell-from ds ns is n.1 p.1 (omega (arith, l)) h.1)

entry_place-from : (ds : List Bounds) (ns is : List ℕ) → length ds ≡ length ns → IsInside ns is → entry_place ds ns (cell_from ds is) ≡ c_place ns is
unfolding cell_from
entry_place-from [] [] [] l h = refl
entry_place-from [] [] (i ∷ is) l h = absurd h
entry_place-from [] (m ∷ ns) is l h = absurd (omega (arith, l))
entry_place-from (d ∷ ds) [] is l h = absurd (omega (arith, l))
entry_place-from (d ∷ ds) (m ∷ ns) [] l h = absurd h
entry_place-from (d ∷ ds) (m ∷ ns) (i ∷ is) l h =
    let e = entry_index-from d m i h.0 in
    let r = entry_place-from ds ns is (omega (arith, l)) h.1 in
    rw (e, r) refl

-- a cell reaches an entry
reaches-cell : (ds : List Bounds) (ns : List ℕ) (cell : List ℤ) → list_all (λ p. fits_dim p.0 p.1) (zip ds ns) ≡ true → length ds ≡ length ns → IsCell ds cell → reaches ds ns cell ≡ true
reaches-cell [] [] [] f l c = refl
reaches-cell [] [] (x ∷ xs) f l c = absurd c
reaches-cell [] (n ∷ ns) xs f l c = absurd (omega (arith, l))
reaches-cell (d ∷ ds) [] xs f l c = absurd (omega (arith, l))
reaches-cell (d ∷ ds) (n ∷ ns) [] f l c = absurd c
reaches-cell (d ∷ ds) (n ∷ ns) (x ∷ xs) f l c =
    let p = both (fits_dim d n) (list_all (λ p. fits_dim p.0 p.1) (zip ds ns)) f in
    both_true (reaches_dim d n x) (reaches ds ns xs) (along (n == 1) refl p.0) (reaches-cell ds ns xs p.1 (omega (arith, l)) c.2)
  where
    along : (b : Bool) → (n == 1) ≡ b → (b || (is_fixed d && n == size_of d)) ≡ true → reaches_dim d n x ≡ true
    along true e g = rw e refl
    along false e g =
        let q = both (is_fixed d) (n == size_of d) g in
        let size : n ≡ size_of d = grind (arith, nat_tests, q.1) in
        let a = c.0 in
        let b = c.1 in
        let low : int_le d.lo x ≡ true = grind (arith, ints, a) in
        let high : int_le x d.hi ≡ true = grind (arith, ints, b) in
        reaches_between d n x e size low high

-- seen at the ends is seen at some cell
pub ends_leave-leaves : (ds : List Bounds) (size : ℕ) (m : OutMap) → list_all are_bounds ds ≡ true → IsNonEmpty ds → is_map ds m ≡ true
    → ends_leave ds size m ≡ leaves ds size m
ends_leave-leaves ds size (Constant o) b n e =
    same_test (not (is_below size o)) (list_any (λ cell. not (is_below size o)) (cells_of ds))
    (λ t. any-cell (λ cell. not (is_below size o)) ds (map (λ d. d.lo) ds) (IsCell-first ds n) t)
    (λ t. (some-cell (λ cell. not (is_below size o)) ds b t).2)
ends_leave-leaves ds size (Strided o s k) b n e =
    same_test (first || last) (list_any p (cells_of ds)) there back
  where
    p : List ℤ → Bool
    p cell = not (is_below size (o +ℤ s *ℤ get_or cell k (pos 0)))

    first : Bool
    first = not (is_below size (o +ℤ s *ℤ get_or (map (λ d. d.lo) ds) k (pos 0)))

    last : Bool
    last = not (is_below size (o +ℤ s *ℤ get_or (map (λ d. d.hi) ds) k (pos 0)))

    there : (first || last) ≡ true → list_any p (cells_of ds) ≡ true
    there t = elim (either_true first last t) [ inl h ↦ any-cell p ds (map (λ d. d.lo) ds) (IsCell-first ds n) h | inr h ↦ any-cell p ds (map (λ d. d.hi) ds) (IsCell-last ds n) h.1 ]

    back : list_any p (cells_of ds) ≡ true → (first || last) ≡ true
    back t = decide (first || last) refl
      where
        decide : (z : Bool) → (first || last) ≡ z → (first || last) ≡ true
        decide true f = f
        decide false f =
            let c = some-cell p ds b t in
            let two = both_false first last f in
            let l = between-ends ds c.0 k c.1 in
            let inside = below-scaled size o s (get_or (map (λ d. d.lo) ds) k (pos 0)) (get_or c.0 k (pos 0)) (get_or (map (λ d. d.hi) ds) k (pos 0)) l.0 l.1 (twice_not (is_below size (o +ℤ s *ℤ get_or (map (λ d. d.lo) ds) k (pos 0))) two.0) (twice_not (is_below size (o +ℤ s *ℤ get_or (map (λ d. d.hi) ds) k (pos 0))) two.1) in
            not_both (is_below size (o +ℤ s *ℤ get_or c.0 k (pos 0))) inside (not_true (is_below size (o +ℤ s *ℤ get_or c.0 k (pos 0))) c.2)
ends_leave-leaves ds size (Indexed o s ns entries) b n e =
    same_test (list_any q entries) (list_any p (cells_of ds)) there back
  where
    q : ℤ → Bool
    q x = not (is_below size (o +ℤ s *ℤ x))

    p : List ℤ → Bool
    p cell = not (is_below size (o +ℤ s *ℤ get_or entries (entry_place ds ns cell) (pos 0)))

    array : (fits ds ns ≡ true) × (are_entries ns entries ≡ true)
    array = both (fits ds ns) (are_entries ns entries) e

    fit : (length ds ≡ length ns) × (list_all (λ p. fits_dim p.0 p.1) (zip ds ns) ≡ true)
    fit =
        let t = both (length ds == length ns) (list_all (λ p. fits_dim p.0 p.1) (zip ds ns)) array.0 in
        (grind (arith, nat_tests, t.0), t.1)

    many : length entries ≡ cell_count ns
    many =
        let t = both (nat_le (cell_count ns) 4194304 && (length entries == cell_count ns)) (list_all is_index entries) array.1 in
        let u = both (nat_le (cell_count ns) 4194304) (length entries == cell_count ns) t.0 in
        grind (arith, nat_tests, u.1)

    there : list_any q entries ≡ true → list_any p (cells_of ds) ≡ true
    there t =
        let k = some-at q entries (pos 0) t in
        let less : k.0 < cell_count ns = omega (arith, k.1, many) in
        let inside = IsInside-c_index ns k.0 less in
        let place = entry_place-from ds ns (c_index ns k.0) fit.0 inside ∙ c_place-c_index ns k.0 less in
        any-cell p ds (cell_from ds (c_index ns k.0)) (IsCell-from ds ns (c_index ns k.0) n fit.1 fit.0 inside)
        (ap (λ (i : ℕ). q (get_or entries i (pos 0))) place ∙ k.2)

    back : list_any p (cells_of ds) ≡ true → list_any q entries ≡ true
    back t =
        let c = some-cell p ds b t in
        let less = entry_place-below ds ns c.0 (reaches-cell ds ns c.0 fit.1 fit.0 c.1) in
        any-at q entries (entry_place ds ns c.0) (pos 0) (omega (arith, less, many)) c.2

-- the first place is that of either test
pub first-ends : (ds : List Bounds) (shape : List ℕ) (ms : List OutMap) (i : ℕ) → list_all are_bounds ds ≡ true → IsNonEmpty ds → list_all (is_map ds) ms ≡ true
    → position_from (λ p. ends_leave ds p.0 p.1) i (zip shape ms) ≡ position_from (λ p. leaves ds p.0 p.1) i (zip shape ms)
first-ends ds [] ms i b n e = refl
first-ends ds (size ∷ shape) [] i b n e = refl
first-ends ds (size ∷ shape) (m ∷ ms) i b n e =
    let p = both (is_map ds m) (list_all (is_map ds) ms) e in
    rw (ends_leave-leaves ds size m b n p.0, first-ends ds shape ms (i + 1) b n p.1) refl

-- no output leaves a size where there is no cell
pub first-empty : (ds : List Bounds) (shape : List ℕ) (ms : List OutMap) (i : ℕ) → cells_of ds ≡ [] → position_from (λ p. leaves ds p.0 p.1) i (zip shape ms) ≡ None
first-empty ds [] ms i e = refl
first-empty ds (size ∷ shape) [] i e = refl
first-empty ds (size ∷ shape) (m ∷ ms) i e =
    let here : leaves ds size m ≡ false = ap (λ (cells : List (List ℤ)). list_any (λ cell. not (is_below size (map_value ds cell m))) cells) e in
    rw here (first-empty ds shape ms (i + 1) e)

-- where no output leaves its size, each cell's numbers lie inside the shape
fine : List Bounds → List (List ℤ) → ℕ × OutMap → Bool
fine ds cells p = not (list_any (λ cell. not (is_below p.0 (map_value ds cell p.1))) cells)

none_leaves : (ds : List Bounds) (cells : List (List ℤ)) (shape : List ℕ) (ms : List OutMap) (i : ℕ)
    → position_from (λ p. list_any (λ cell. not (is_below p.0 (map_value ds cell p.1))) cells) i (zip shape ms) ≡ None → list_all (fine ds cells) (zip shape ms) ≡ true
unfolding fine
none_leaves ds cells [] ms i e = refl
none_leaves ds cells (n ∷ shape) [] i e = refl
none_leaves ds cells (n ∷ shape) (m ∷ ms) i e = told (list_any (λ cell. not (is_below n (map_value ds cell m))) cells) e (none_leaves ds cells shape ms (i + 1))
  where
    told : (b : Bool) → cond b (Some i) (position_from (λ p. list_any (λ cell. not (is_below p.0 (map_value ds cell p.1))) cells) (i + 1) (zip shape ms)) ≡ None
        → (position_from (λ p. list_any (λ cell. not (is_below p.0 (map_value ds cell p.1))) cells) (i + 1) (zip shape ms) ≡ None → list_all (fine ds cells) (zip shape ms) ≡ true)
        → (not b && list_all (fine ds cells) (zip shape ms)) ≡ true
    told true f h = absurd (let no_such : ⊥ = cc in no_such)
    told false f h = h f

one_inside : (ds : List Bounds) (cell : List ℤ) (cells : List (List ℤ)) (shape : List ℕ) (ms : List OutMap) → length shape ≡ length ms
    → list_all (fine ds (cell ∷ cells)) (zip shape ms) ≡ true → IsInShape shape (map (map_value ds cell) ms) × (list_all (fine ds cells) (zip shape ms) ≡ true)
unfolding fine
one_inside ds cell cells [] [] l e = (tt, refl)
one_inside ds cell cells [] (m ∷ ms) l e = absurd (omega (arith, l))
one_inside ds cell cells (n ∷ shape) [] l e = absurd (omega (arith, l))
one_inside ds cell cells (n ∷ shape) (m ∷ ms) l e =
    let p = both (fine ds (cell ∷ cells) (n, m)) (list_all (fine ds (cell ∷ cells)) (zip shape ms)) e in
    let q = both_false (not (is_below n (map_value ds cell m))) (list_any (λ c. not (is_below n (map_value ds c m))) cells) (not_true (not (is_below n (map_value ds cell m)) || list_any (λ c. not (is_below n (map_value ds c m))) cells) p.0) in
    let r = one_inside ds cell cells shape ms (omega (arith, l)) p.1 in
    let t = below n (map_value ds cell m) (twice_not (is_below n (map_value ds cell m)) q.0) in
    ((t.0, t.1, r.0), both_true (not (list_any (λ c. not (is_below n (map_value ds c m))) cells)) (list_all (fine ds cells) (zip shape ms)) (ap not q.1) r.1)
  where
    below : (n : ℕ) (x : ℤ) → is_below n x ≡ true → (pos 0 ≤ℤ x) × (x <ℤ pos n)
    below n x e = (grind (arith, ints, e), grind (arith, ints, e))

all_inside : (ds : List Bounds) (cells : List (List ℤ)) (shape : List ℕ) (ms : List OutMap) → length shape ≡ length ms → list_all (fine ds cells) (zip shape ms) ≡ true
    → AllByRecursion (λ cell. IsInShape shape (map (map_value ds cell) ms)) cells
all_inside ds [] shape ms l e = tt
all_inside ds (cell ∷ cells) shape ms l e =
    let r = one_inside ds cell cells shape ms l e in
    (r.0, all_inside ds cells shape ms l r.1)

pub inside-shape : (ds : List Bounds) (shape : List ℕ) (ms : List OutMap) → length shape ≡ length ms → position_from (λ p. leaves ds p.0 p.1) 0 (zip shape ms) ≡ None
    → AllByRecursion (λ cell. IsInShape shape (map (map_value ds cell) ms)) (cells_of ds)
inside-shape ds shape ms l e = all_inside ds (cells_of ds) shape ms l (none_leaves ds (cells_of ds) shape ms 0 e)

pub first-no_cell : (ds : List Bounds) (shape : List ℕ) (ms : List OutMap) → 0 ≡ length (cells_of ds) → None ≡ position_from (λ p. leaves ds p.0 p.1) 0 (zip shape ms)
first-no_cell ds shape ms e = sym (first-empty ds shape ms 0 (none (cells_of ds) e))
  where
    none : (cells : List (List ℤ)) → 0 ≡ length cells → cells ≡ []
    none [] e = refl
    none (cell ∷ cells) e = absurd (omega (arith, e))

-- the bounds of a dimension among all lower and all upper ones
pub lo_at : (ds : List Bounds) (k : ℕ) (d : Bounds) → k < length ds → d ≡ get_or ds k d → d.lo ≡ get_or (map (λ d. d.lo) ds) k (pos 0)
lo_at ds k d h e = ap (λ (b : Bounds). b.lo) e ∙ sym (get_or-map (λ (b : Bounds). b.lo) ds k d (pos 0) h)

pub hi_at : (ds : List Bounds) (k : ℕ) (d : Bounds) → k < length ds → d ≡ get_or ds k d → d.hi ≡ get_or (map (λ d. d.hi) ds) k (pos 0)
hi_at ds k d h e = ap (λ (b : Bounds). b.hi) e ∙ sym (get_or-map (λ (b : Bounds). b.hi) ds k d (pos 0) h)
