-- The pieces of a view by its boxes.
use Rattle.std.proofs.Common.{◌≡◌, ◌∙◌, ℕ, zero, suc, ◌+◌, ◌<◌, Bool, true, false, cond, ℤ, pos, ◌+ℤ◌, ◌-ℤ◌, unsigned_abs, List, [], ◌∷◌, ◌++◌, length, map, filter, fold, get_or, refl, sym, ap, arith}
use Rattle.std.specs.List.{list_all, AllByRecursion, flat_map, range_with_len}
use Rattle.std.specs.Str.{bytes_eq}
use Rattle.std.proofs.lemmas.Int.{ints}
use Rattle.std.proofs.lemmas.Slice.Eq.{bytes_eq-Decides}
use Rattle.index_intervals.specs.Bounds.{Bounds}
use Rattle.index_transform.specs.declared.map.OutMap.{OutMap}
use Rattle.index_transform.specs.declared.map.OutMap.TheVariants.{Constant, Strided, Indexed}
use Rattle.index_transform.specs.Cells.{cells_of}
use Rattle.index_transform.specs.Maps.{size_of}
use Rattle.index_transform.specs.Values.{map_value}
use Rattle.index_transform.specs.Walks.{IsCell, lows}
use Rattle.chunk_grid.specs.Grid.{IsInShape, numbers, chunk_index}
use Rattle.chunk_grid.specs.Pieces.{Piece, among, touched, pairs_in}
use Rattle.chunk_grid.specs.Runs.{runs_of_pairs, run_pieces}
use Rattle.chunk_grid.specs.declared.boxes.Boxed.{Boxed}
use Rattle.chunk_grid.specs.declared.piece.RunPiece.{RunPiece}
use Rattle.chunk_grid.specs.Boxes.{AreBoxes, IsBoxIn, chunk_along, key_along, cell_place, pair_at_cell, IsOfBox, piece_of_box, is_regular}
use Rattle.chunk_grid.proofs.TouchedLaws.{boxes-touched}
use Rattle.chunk_grid.proofs.CellPairs.{pairs-of_cells}
use Rattle.chunk_grid.proofs.GridLaws.{from_zero_in_shape}
use Rattle.chunk_grid.proofs.LoopLaws.{cells-range, map-map, map-alike}
use Rattle.chunk_grid.proofs.BoxPairs.{cells-are, map-agree, enumerate-cells}
use Rattle.chunk_grid.proofs.BoxLoops.{ordered-box, first-cell}

-- What holds of each cell of a list, cell by cell.

all-left : {X : Type 0} (P : X → Type 0) (xs ys : List X) → AllByRecursion P (xs ++ ys) → AllByRecursion P xs
all-left P [] ys a = tt
all-left P (x ∷ xs) ys a = (a.0, all-left P xs ys a.1)

all-right : {X : Type 0} (P : X → Type 0) (xs ys : List X) → AllByRecursion P (xs ++ ys) → AllByRecursion P ys
all-right P [] ys a = a
all-right P (x ∷ xs) ys a = all-right P xs ys a.1

all-block : {Y : Type 0} (P : Y → Type 0) (f : ℕ → List Y) (j m k : ℕ) → k < m → AllByRecursion P (flat_map f (range_with_len j m)) → AllByRecursion P (f (j + k))
all-block P f j zero k h a = absurd (omega (arith, h))
all-block P f j (suc m) zero h a = let z : j ≡ j + 0 = omega arith in rw (← z) (all-left P (f j) (flat_map f (range_with_len (j + 1) m)) a)
all-block P f j (suc m) (suc k) h a =
    let z : (j + 1) + k ≡ j + suc k = omega arith in
    rw (← z) (all-block P f (j + 1) m k (omega (arith, h)) (all-right P (f j) (flat_map f (range_with_len (j + 1) m)) a))

all-unmap : {X Y : Type 0} (P : Y → Type 0) (f : X → Y) (xs : List X) → AllByRecursion P (map f xs) → AllByRecursion (λ x. P (f x)) xs
all-unmap P f [] a = tt
all-unmap P f (x ∷ xs) a = (a.0, all-unmap P f xs a.1)

-- what holds of all cells holds of each
pub all-at-cell : (P : List ℤ → Type 0) (dims : List Bounds) (cell : List ℤ) → AllByRecursion P (cells_of dims) → IsCell dims cell → P cell
all-at-cell P [] [] a c = a.0
all-at-cell P [] (x ∷ cell) a c = absurd c
all-at-cell P (dim ∷ dims) [] a c = absurd c
all-at-cell P (dim ∷ dims) (x ∷ cell) a c =
    let r = cells-range dim dims in
    let b = rw r at a in
    let low = c.0 in
    let high = c.1 in
    let k = unsigned_abs (x -ℤ dim.lo) in
    let less : k < size_of dim = omega (arith, ints, low, high) in
    let block = all-block P (λ k. map (λ cell. (dim.lo +ℤ pos k) ∷ cell) (cells_of dims)) 0 (size_of dim) k less b in
    let rest = all-unmap P (λ cell. (dim.lo +ℤ pos (0 + k)) ∷ cell) (cells_of dims) block in
    let is : dim.lo +ℤ pos (0 + k) ≡ x = omega (arith, ints, low) in
    let here = all-at-cell (λ cell. P ((dim.lo +ℤ pos (0 + k)) ∷ cell)) dims cell rest c.2 in
    rw is at here

-- a cell of a box is one of the dimensions
pub cell-in-box : (dims box : List Bounds) (cell : List ℤ) → IsBoxIn dims box → IsCell box cell → IsCell dims cell
cell-in-box [] [] cell h c = c
cell-in-box [] (b ∷ box) cell h c = absurd h
cell-in-box (dim ∷ dims) [] cell h c = absurd h
cell-in-box (dim ∷ dims) (b ∷ box) [] h c = absurd c
cell-in-box (dim ∷ dims) (b ∷ box) (x ∷ cell) h c =
    let low = h.0 in
    let high = h.2 in
    let p = c.0 in
    let q = c.1 in
    (omega (arith, ints, low, p), omega (arith, ints, high, q), cell-in-box dims box cell h.3 c.2)

-- what passes a test passes it
all-filter : {X : Type 0} (p : X → Bool) (xs : List X) → AllByRecursion (λ x. p x ≡ true) (filter p xs)
all-filter p [] = tt
all-filter p (x ∷ xs) = told (p x) refl (all-filter p xs)
  where
    told : (b : Bool) → p x ≡ b → AllByRecursion (λ x. p x ≡ true) (filter p xs) → AllByRecursion (λ x. p x ≡ true) (cond b (x ∷ filter p xs) (filter p xs))
    told true e a = (e, a)
    told false e a = a

all-both : {X : Type 0} (P Q : X → Type 0) (xs : List X) → AllByRecursion P xs → AllByRecursion Q xs → AllByRecursion (λ x. P x × Q x) xs
all-both P Q [] a b = tt
all-both P Q (x ∷ xs) a b = ((a.0, b.0), all-both P Q xs a.1 b.1)

all-implied : {X : Type 0} (P Q : X → Type 0) → ((x : X) → P x → Q x) → (xs : List X) → AllByRecursion P xs → AllByRecursion Q xs
all-implied P Q h [] a = tt
all-implied P Q h (x ∷ xs) a = (h x a.0, all-implied P Q h xs a.1)

-- the key of a cell is the index of its chunk
pub key-chunk : (maps : List OutMap) (chunk : List ℕ) (cell : List ℤ) → length maps ≡ length chunk → key_along maps chunk cell ≡ chunk_index chunk (numbers (map (map_value [] cell) maps))
key-chunk [] [] cell l = refl
key-chunk [] (n ∷ chunk) cell l = absurd (omega (arith, l))
key-chunk (m ∷ maps) [] cell l = absurd (omega (arith, l))
key-chunk (m ∷ maps) (n ∷ chunk) cell l = ap (λ ks. chunk_along m n cell ∷ ks) (key-chunk maps chunk cell (omega (arith, l)))

-- each cell of a box lies in the array and in the box's chunk
pub cells-of-box : (maps : List OutMap) (shape chunk key : List ℕ) (dims box : List Bounds) → length maps ≡ length chunk → IsBoxIn dims box
    → cells_of box ≡ filter (λ cell. bytes_eq (key_along maps chunk cell) key) (cells_of dims)
    → AllByRecursion (λ cell. IsInShape shape (map (map_value [] cell) maps)) (cells_of dims)
    → AllByRecursion (IsOfBox maps chunk key box) (cells_of box)
cells-of-box maps shape chunk key dims box l h e inside =
    let passed = all-filter (λ cell. bytes_eq (key_along maps chunk cell) key) (cells_of dims) in
    let keys : AllByRecursion (λ cell. bytes_eq (key_along maps chunk cell) key ≡ true) (cells_of box) = rw e passed in
    all-implied (λ cell. IsCell box cell × bytes_eq (key_along maps chunk cell) key ≡ true) (IsOfBox maps chunk key box) (λ cell p. one cell p.0 p.1) (cells_of box)
    (all-both (IsCell box) (λ cell. bytes_eq (key_along maps chunk cell) key ≡ true) (cells_of box) (cells-are box (ordered-box dims box h)) keys)
  where
    one : (cell : List ℤ) → IsCell box cell → bytes_eq (key_along maps chunk cell) key ≡ true → IsOfBox maps chunk key box cell
    one cell c k =
        let in_shape = all-at-cell (λ cell. IsInShape shape (map (map_value [] cell) maps)) dims cell inside (cell-in-box dims box cell h c) in
        record {
          between = c;
          from_zero = from_zero_in_shape shape (map (map_value [] cell) maps) in_shape;
          of_chunk = sym (key-chunk maps chunk cell l) ∙ (bytes_eq-Decides (key_along maps chunk cell) key).0 k;
        }

pub first-of-box : (maps : List OutMap) (chunk key : List ℕ) (dims box : List Bounds) → IsBoxIn dims box → AllByRecursion (IsOfBox maps chunk key box) (cells_of box)
    → IsOfBox maps chunk key box (lows box)
first-of-box maps chunk key dims box h all = all-at-cell (IsOfBox maps chunk key box) box (lows box) all (first-cell dims box h)

-- The pieces.

by-place : {X : Type 0} (P : X → Type 0) (xs : List X) → ((i : ℕ) (x : X) → i < length xs → get_or xs i x ≡ x → P x) → AllByRecursion P xs
by-place P [] h = tt
by-place P (x ∷ xs) h = (h 0 x (omega arith) refl, by-place P xs (λ i y l e. h (suc i) y (omega (arith, l)) e))

filter-alike : {X : Type 0} (p q : X → Bool) → ((x : X) → p x ≡ q x) → (xs : List X) → filter p xs ≡ filter q xs
filter-alike p q h [] = refl
filter-alike p q h (x ∷ xs) = rw (h x) (ap (λ ys. cond (q x) (x ∷ ys) ys) (filter-alike p q h xs))

-- the pieces of a view are those of its boxes
pub box-pieces : (maps : List OutMap) (chunk : List ℕ) (dims : List Bounds) (boxes : List Boxed) → length maps ≡ length chunk → AreBoxes (key_along maps chunk) dims boxes
    → run_pieces chunk (map (λ cell. numbers (map (map_value [] cell) maps)) (cells_of dims)) ≡ map (piece_of_box dims maps chunk) boxes
box-pieces maps chunk dims boxes l h =
    let value : List ℤ → List ℕ = λ cell. numbers (map (map_value [] cell) maps) in
    let targets = map value (cells_of dims) in
    let of_chunk : List ℕ → RunPiece = λ c. record { chunk = c; runs = runs_of_pairs (pairs_in chunk c targets) } in
    let chunks : touched chunk targets ≡ map (λ box. box.chunk) boxes =
    ap (fold among []) (map-map (chunk_index chunk) value (cells_of dims) ∙ map-alike (λ cell. chunk_index chunk (value cell)) (key_along maps chunk) (λ cell. sym (key-chunk maps chunk cell l)) (cells_of dims))
    ∙ boxes-touched (key_along maps chunk) dims boxes h in
    map-map (λ piece. let r : RunPiece = record { chunk = piece.chunk; runs = runs_of_pairs piece.pairs } in r) (λ c. let p : Piece = record { chunk = c; pairs = pairs_in chunk c targets } in p) (touched chunk targets)
    ∙ ap (map of_chunk) chunks
    ∙ map-map of_chunk (λ box. box.chunk) boxes
    ∙ map-agree (λ box. cells_of box.dims ≡ filter (λ cell. bytes_eq (key_along maps chunk cell) box.chunk) (cells_of dims)) (λ box. of_chunk box.chunk) (piece_of_box dims maps chunk)
    (λ box e. one box e) boxes (by-place (λ box. cells_of box.dims ≡ filter (λ cell. bytes_eq (key_along maps chunk cell) box.chunk) (cells_of dims)) boxes h.cells)
  where
    one : (box : Boxed) → cells_of box.dims ≡ filter (λ cell. bytes_eq (key_along maps chunk cell) box.chunk) (cells_of dims)
        → (let r : RunPiece = record { chunk = box.chunk; runs = runs_of_pairs (pairs_in chunk box.chunk (map (λ cell. numbers (map (map_value [] cell) maps)) (cells_of dims))) } in r)
        ≡ piece_of_box dims maps chunk box
    one box e =
        let value : List ℤ → List ℕ = λ cell. numbers (map (map_value [] cell) maps) in
        let pairs = pairs-of_cells chunk box.chunk value (cells_of dims) (cell_place dims) (enumerate-cells dims)
        ∙ ap (map (pair_at_cell dims maps chunk)) (filter-alike (λ cell. bytes_eq (chunk_index chunk (value cell)) box.chunk) (λ cell. bytes_eq (key_along maps chunk cell) box.chunk)
        (λ cell. ap (λ k. bytes_eq k box.chunk) (sym (key-chunk maps chunk cell l))) (cells_of dims) ∙ sym e) in
        ap (λ ps. let r : RunPiece = record { chunk = box.chunk; runs = runs_of_pairs ps } in r) pairs

-- without index arrays a map's number needs no dimensions
pub regular-value : (dims : List Bounds) (maps : List OutMap) (cell : List ℤ) → list_all is_regular maps ≡ true → map (map_value dims cell) maps ≡ map (map_value [] cell) maps
regular-value dims [] cell e = refl
regular-value dims (Constant offset ∷ maps) cell e = ap (λ ys. offset ∷ ys) (regular-value dims maps cell e)
regular-value dims (Strided offset stride dim ∷ maps) cell e = ap (λ ys. map_value [] cell (Strided offset stride dim) ∷ ys) (regular-value dims maps cell e)
regular-value dims (Indexed offset stride sizes entries ∷ maps) cell e = cc
