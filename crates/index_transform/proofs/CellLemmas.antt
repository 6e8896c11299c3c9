-- The number of cells, and one cell after another.
use Rattle.std.proofs.Common.{◌≡◌, ◌∙◌, zero, suc, ℕ, ◌+◌, ◌*◌, ◌==◌, Bool, true, false, cond, ◌||◌, List, [], ◌∷◌, ◌++◌, ◌≤ℤ◌, length, map, refl, sym, ap, arith, ℤ, pos, ◌+ℤ◌, Ok, Err, Result, IfOk, nat_le}
use Rattle.std.proofs.lemmas.List.{length-map, length-append}
use Rattle.std.proofs.lemmas.Bool.Decides.{nat_tests}
use Rattle.std.specs.List.{flat_map, list_any, list_all}
use Rattle.cells.specs.Places.{cell_count}
use Rattle.std.proofs.lemmas.Int.{ints}
use Rattle.cells.proofs.Laws.{both}
use Rattle.index_intervals.specs.Bounds.{Bounds, is_ordered}
use Rattle.index_transform.specs.declared.error.CountError.{CountError}
use Rattle.index_transform.specs.declared.error.CountError.TheVariants.{TooMany}
use Rattle.index_transform.specs.Maps.{size_of}
use Rattle.index_transform.specs.Walks.{IsCell}
use Rattle.index_transform.specs.Cells.{counting, members_of, cells_of, counted_from}

pub length-counting : (x : ℤ) (n : ℕ) → length (counting x n) ≡ n
length-counting x zero = refl
length-counting x (suc n) = ap suc (length-counting (x +ℤ pos 1) n)

-- one cell per member and cell of the rest
pub length-flat_map : (cells : List (List ℤ)) (xs : List ℤ)
    → length (flat_map (λ x. map (λ cell. x ∷ cell) cells) xs) ≡ length xs * length cells
length-flat_map cells [] = omega arith
length-flat_map cells (x ∷ xs) =
    length-append (map (λ cell. x ∷ cell) cells) (flat_map (λ x. map (λ cell. x ∷ cell) cells) xs)
    ∙ (let a : length (map (λ cell. x ∷ cell) cells) ≡ length cells = length-map cells (λ cell. x ∷ cell) in
    let b = length-flat_map cells xs in
    omega (arith, a, b))

pub length-cells_of : (dims : List Bounds) → length (cells_of dims) ≡ cell_count (map size_of dims)
length-cells_of [] = refl
length-cells_of (dim ∷ dims) =
    length-flat_map (cells_of dims) (members_of dim)
    ∙ ap (λ n. n * length (cells_of dims)) (length-counting dim.lo (size_of dim))
    ∙ ap (λ n. size_of dim * n) (length-cells_of dims)

-- a product that is answered is that of all sizes
pub counted_from-product : (p k : ℕ) (ns : List ℕ) → IfOk (counted_from p k ns) (λ n. n ≡ p * cell_count ns)
counted_from-product p k [] = omega arith
counted_from-product p k (n ∷ ns) = told (nat_le (p * n) 4194304) (counted_from-product (p * n) (k + 1) ns)
  where
    along : (r : Result ℕ CountError) → IfOk r (λ m. m ≡ (p * n) * cell_count ns) → IfOk r (λ m. m ≡ p * (n * cell_count ns))
    along (Ok m) h = omega (arith, h)
    along (Err e) h = tt

    told : (b : Bool) → IfOk (counted_from (p * n) (k + 1) ns) (λ m. m ≡ (p * n) * cell_count ns)
        → IfOk (cond b (counted_from (p * n) (k + 1) ns) (Err (TooMany k))) (λ m. m ≡ p * (n * cell_count ns))
    told true h = along (counted_from (p * n) (k + 1) ns) h
    told false h = tt

-- an empty dimension leaves no cell
pub cell_count-empty : (dims : List Bounds) → list_any (λ dim. size_of dim == 0) dims ≡ true → cell_count (map size_of dims) ≡ 0
cell_count-empty [] e = cc
cell_count-empty (dim ∷ dims) e = told (size_of dim == 0) refl (λ h. cell_count-empty dims h) e
  where
    told : (b : Bool) → (size_of dim == 0) ≡ b → (list_any (λ dim. size_of dim == 0) dims ≡ true → cell_count (map size_of dims) ≡ 0)
        → (b || list_any (λ dim. size_of dim == 0) dims) ≡ true → size_of dim * cell_count (map size_of dims) ≡ 0
    told true f h e = let z : size_of dim ≡ 0 = grind (arith, nat_tests, f) in rw z (omega arith)
    told false f h e = rw (h e) (omega arith)

-- the answers' numbers
pub number-empty : (dims : List Bounds) → list_any (λ dim. size_of dim == 0) dims ≡ true → 0 ≡ length (cells_of dims)
number-empty dims e = sym (length-cells_of dims ∙ cell_count-empty dims e)

pub number-counted : (dims : List Bounds) (r : Result ℕ CountError) → r ≡ counted_from 1 0 (map size_of dims)
    → IfOk r (λ n. n ≡ length (cells_of dims))
number-counted dims r e = rw e (along (counted_from 1 0 (map size_of dims)) (counted_from-product 1 0 (map size_of dims)))
  where
    along : (r : Result ℕ CountError) → IfOk r (λ m. m ≡ 1 * cell_count (map size_of dims)) → IfOk r (λ n. n ≡ length (cells_of dims))
    along (Ok m) h = h ∙ omega (arith, length-cells_of dims)
    along (Err e) h = tt

-- each of the index vectors is a cell
abbrev pub AreCells : List Bounds → List (List ℤ) → Type 0
AreCells ds [] = Unit {0}
AreCells ds (xs ∷ cells) = IsCell ds xs × AreCells ds cells

AreCells-append : (ds : List Bounds) (a b : List (List ℤ)) → AreCells ds a → AreCells ds b → AreCells ds (a ++ b)
AreCells-append ds [] b p q = q
AreCells-append ds (xs ∷ a) b p q = (p.0, AreCells-append ds a b p.1 q)

AreCells-put : (d : Bounds) (ds : List Bounds) (x : ℤ) (a : List (List ℤ)) → d.lo ≤ℤ x → x ≤ℤ d.hi → AreCells ds a
    → AreCells (d ∷ ds) (map (λ cell. x ∷ cell) a)
AreCells-put d ds x [] l h p = tt
AreCells-put d ds x (xs ∷ a) l h p = ((l, h, p.0), AreCells-put d ds x a l h p.1)

AreCells-counting : (d : Bounds) (ds : List Bounds) (x : ℤ) (n : ℕ) (a : List (List ℤ)) → d.lo ≤ℤ x → (x +ℤ pos n) ≤ℤ (d.hi +ℤ pos 1) → AreCells ds a
    → AreCells (d ∷ ds) (flat_map (λ y. map (λ cell. y ∷ cell) a) (counting x n))
AreCells-counting d ds x zero a l h p = tt
AreCells-counting d ds x (suc n) a l h p =
    AreCells-append (d ∷ ds) (map (λ cell. x ∷ cell) a) (flat_map (λ y. map (λ cell. y ∷ cell) a) (counting (x +ℤ pos 1) n))
    (AreCells-put d ds x a l (omega (arith, ints, h)) p)
    (AreCells-counting d ds (x +ℤ pos 1) n a (omega (arith, ints, l)) (omega (arith, ints, h)) p)

-- the cells of dimensions are cells
pub AreCells-cells_of : (ds : List Bounds) → list_all is_ordered ds ≡ true → AreCells ds (cells_of ds)
AreCells-cells_of [] e = (tt, tt)
AreCells-cells_of (d ∷ ds) e =
    let p = both (is_ordered d) (list_all is_ordered ds) e in
    let o : d.lo ≤ℤ (d.hi +ℤ pos 1) = grind (arith, ints, p.0) in
    AreCells-counting d ds d.lo (size_of d) (cells_of ds) (omega (arith, ints)) (omega (arith, ints, o)) (AreCells-cells_of ds p.1)
