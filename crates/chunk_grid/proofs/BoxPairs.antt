-- The pairs of a box's cells.
use Rattle.std.proofs.Common.{◌≡◌, ◌∙◌, ℕ, zero, suc, ◌+◌, ◌*◌, ◌<◌, ℤ, pos, ◌+ℤ◌, ◌-ℤ◌, ◌≤ℤ◌, unsigned_abs, List, [], ◌∷◌, ◌++◌, length, map, refl, sym, ap, arith}
use Rattle.std.specs.List.{AllByRecursion, flat_map, enumerate_from, range_with_len}
use Rattle.std.proofs.lemmas.Int.{ints}
use Rattle.cells.specs.Places.{cell_count}
use Rattle.index_intervals.specs.Bounds.{Bounds}
use Rattle.index_transform.specs.declared.map.OutMap.{OutMap}
use Rattle.index_transform.specs.Cells.{cells_of}
use Rattle.index_transform.specs.Maps.{size_of}
use Rattle.index_transform.specs.Values.{map_value}
use Rattle.index_transform.specs.Walks.{IsCell, lows}
use Rattle.index_transform.proofs.Laws.{length-cells_of}
use Rattle.chunk_grid.specs.Grid.{numbers, place_within}
use Rattle.chunk_grid.specs.Boxes.{from_lows, cell_place, view_steps, chunk_steps, looped, loops_of, pair_at_cell, IsOfBox}
use Rattle.chunk_grid.proofs.LoopLaws.{at_view, at_chunk, pair_from, cells-looped, cells-range, flat_map-alike, map-flat_map, map-map, map-alike}
use Rattle.chunk_grid.proofs.AffineLaws.{AreAbove, above-length, place-steps, view-from, EachGoes, ArePositive, places-from, total-steps, length-chunk_steps}

-- What holds of all cells.

all-append : {X : Type 0} (P : X → Type 0) (xs ys : List X) → AllByRecursion P xs → AllByRecursion P ys → AllByRecursion P (xs ++ ys)
all-append P [] ys a b = b
all-append P (x ∷ xs) ys a b = (a.0, all-append P xs ys a.1 b)

all-map : {X Y : Type 0} (P : Y → Type 0) (Q : X → Type 0) (f : X → Y) → ((x : X) → Q x → P (f x)) → (xs : List X) → AllByRecursion Q xs → AllByRecursion P (map f xs)
all-map P Q f h [] a = tt
all-map P Q f h (x ∷ xs) a = (h x a.0, all-map P Q f h xs a.1)

all-range : {Y : Type 0} (P : Y → Type 0) (f : ℕ → List Y) (n j m : ℕ) → j + m ≡ n → ((k : ℕ) → k < n → AllByRecursion P (f k)) → AllByRecursion P (flat_map f (range_with_len j m))
all-range P f n j zero e h = tt
all-range P f n j (suc m) e h = all-append P (f j) (flat_map f (range_with_len (j + 1) m)) (h j (omega (arith, e))) (all-range P f n (j + 1) m (omega (arith, e)) h)

-- the bounds cross by one at most
abbrev pub AreOrdered : List Bounds → Type 0
AreOrdered [] = Unit {0}
AreOrdered (dim ∷ dims) = (dim.lo ≤ℤ (dim.hi +ℤ pos 1)) × AreOrdered dims

-- the cells lie between the bounds
pub cells-are : (dims : List Bounds) → AreOrdered dims → AllByRecursion (IsCell dims) (cells_of dims)
cells-are [] o = (tt, tt)
cells-are (dim ∷ dims) o =
    let order = o.0 in
    let all = all-range (IsCell (dim ∷ dims)) (λ k. map (λ cell. (dim.lo +ℤ pos k) ∷ cell) (cells_of dims)) (size_of dim) 0 (size_of dim) (omega arith)
    (λ k h. all-map (IsCell (dim ∷ dims)) (IsCell dims) (λ cell. (dim.lo +ℤ pos k) ∷ cell) (λ cell c. (omega (arith, ints), omega (arith, ints, h, order), c)) (cells_of dims) (cells-are dims o.1)) in
    let same = cells-range dim dims in
    rw same all

-- functions that agree on what a list has map it alike
pub map-agree : {X Y : Type 0} (P : X → Type 0) (f g : X → Y) → ((x : X) → P x → f x ≡ g x) → (xs : List X) → AllByRecursion P xs → map f xs ≡ map g xs
map-agree P f g h [] a = refl
map-agree P f g h (x ∷ xs) a = ap (λ y. y ∷ map f xs) (h x a.0) ∙ ap (λ ys. g x ∷ ys) (map-agree P f g h xs a.1)

-- Their places.

length-mapped : {X Y : Type 0} (f : X → Y) (xs : List X) → length (map f xs) ≡ length xs
length-mapped f [] = refl
length-mapped f (x ∷ xs) = ap suc (length-mapped f xs)

enumerate-append : {X : Type 0} (a : ℕ) (xs ys : List X) → enumerate_from a (xs ++ ys) ≡ enumerate_from a xs ++ enumerate_from (a + length xs) ys
enumerate-append a [] ys = let z : a ≡ a + 0 = omega arith in ap (λ k. enumerate_from k ys) z
enumerate-append a (x ∷ xs) ys =
    let z : (a + 1) + length xs ≡ a + suc (length xs) = omega arith in
    ap (λ r. (a, x) ∷ r) (enumerate-append (a + 1) xs ys ∙ ap (λ k. enumerate_from (a + 1) xs ++ enumerate_from k ys) z)

enumerate-map : {X Y : Type 0} (f : X → Y) (a b : ℕ) (xs : List X) → enumerate_from (a + b) (map f xs) ≡ map (λ p. (a + p.0, f p.1)) (enumerate_from b xs)
enumerate-map f a b [] = refl
enumerate-map f a b (x ∷ xs) =
    let z : (a + b) + 1 ≡ a + (b + 1) = omega arith in
    ap (λ r. (a + b, f x) ∷ r) (ap (λ k. enumerate_from k (map f xs)) z ∙ enumerate-map f a (b + 1) xs)

enumerate-blocks : {X Y : Type 0} (f : ℕ → X → Y) (m : ℕ) (place : X → ℕ) (xs : List X) → length xs ≡ m → enumerate_from 0 xs ≡ map (λ x. (place x, x)) xs
    → (j n : ℕ) → enumerate_from (j * m) (flat_map (λ k. map (f k) xs) (range_with_len j n)) ≡ flat_map (λ k. map (λ x. (k * m + place x, f k x)) xs) (range_with_len j n)
enumerate-blocks f m place xs l e j zero = refl
enumerate-blocks f m place xs l e j (suc n) =
    let one = enumerate-append (j * m) (map (f j) xs) (flat_map (λ k. map (f k) xs) (range_with_len (j + 1) n)) in
    let z : j * m ≡ j * m + 0 = omega arith in
    let block = ap (λ k. enumerate_from k (map (f j) xs)) z ∙ enumerate-map (f j) (j * m) 0 xs ∙ ap (map (λ p. (j * m + p.0, f j p.1))) e
    ∙ map-map (λ p. (j * m + p.0, f j p.1)) (λ x. (place x, x)) xs in
    let next : j * m + length (map (f j) xs) ≡ (j + 1) * m = (let a = length-mapped (f j) xs in let s = suc-times j m in omega (arith, a, l, s)) in
    one ∙ ap (λ ys. ys ++ enumerate_from (j * m + length (map (f j) xs)) (flat_map (λ k. map (f k) xs) (range_with_len (j + 1) n))) block
    ∙ ap (λ ys. map (λ x. (j * m + place x, f j x)) xs ++ ys) (ap (λ k. enumerate_from k (flat_map (λ k. map (f k) xs) (range_with_len (j + 1) n))) next ∙ enumerate-blocks f m place xs l e (j + 1) n)
  where
    suc-times : (j m : ℕ) → (j + 1) * m ≡ j * m + m
    suc-times j m = omega arith

-- each cell's number in C order is its place
pub enumerate-cells : (dims : List Bounds) → enumerate_from 0 (cells_of dims) ≡ map (λ cell. (cell_place dims cell, cell)) (cells_of dims)
enumerate-cells [] = refl
enumerate-cells (dim ∷ dims) =
    let n = size_of dim in
    let m = cell_count (map size_of dims) in
    let f : ℕ → List ℤ → List ℤ = λ k cell. (dim.lo +ℤ pos k) ∷ cell in
    let r = cells-range dim dims in
    let z : 0 ≡ 0 * m = omega arith in
    ap (enumerate_from 0) r ∙ ap (λ k. enumerate_from k (flat_map (λ k. map (f k) (cells_of dims)) (range_with_len 0 n))) z
    ∙ enumerate-blocks f m (cell_place dims) (cells_of dims) (length-cells_of dims) (enumerate-cells dims) 0 n
    ∙ flat_map-alike (λ k. map (λ cell. (k * m + cell_place dims cell, f k cell)) (cells_of dims)) (λ k. map (λ cell. (cell_place (dim ∷ dims) cell, cell)) (map (f k) (cells_of dims)))
    (λ k. map-alike (λ cell. (k * m + cell_place dims cell, f k cell)) (λ cell. (cell_place (dim ∷ dims) (f k cell), f k cell)) (λ cell. one k cell) (cells_of dims)
    ∙ sym (map-map (λ cell. (cell_place (dim ∷ dims) cell, cell)) (f k) (cells_of dims))) (range_with_len 0 n)
    ∙ sym (map-flat_map (λ cell. (cell_place (dim ∷ dims) cell, cell)) (λ k. map (f k) (cells_of dims)) (range_with_len 0 n))
    ∙ ap (map (λ cell. (cell_place (dim ∷ dims) cell, cell))) (sym r)
  where
    one : (k : ℕ) (cell : List ℤ) → (let p : ℕ × List ℤ = (k * cell_count (map size_of dims) + cell_place dims cell, (dim.lo +ℤ pos k) ∷ cell) in p)
        ≡ (cell_place (dim ∷ dims) ((dim.lo +ℤ pos k) ∷ cell), (dim.lo +ℤ pos k) ∷ cell)
    one k cell = let off : unsigned_abs (dim.lo +ℤ pos k -ℤ dim.lo) ≡ k = omega (arith, ints) in rw off refl

-- Their pairs.

length-lows : (bs : List Bounds) (cell : List ℤ) → IsCell bs cell → length (from_lows bs cell) ≡ length bs
length-lows [] [] h = refl
length-lows [] (x ∷ cell) h = absurd h
length-lows (b ∷ bs) [] h = absurd h
length-lows (b ∷ bs) (x ∷ cell) h = ap suc (length-lows bs cell h.2)

-- the place of a cell in the chunk, from that of the first cell on
pub place-of-cell : (box : List Bounds) (maps : List OutMap) (chunk key : List ℕ) (cell : List ℤ) → EachGoes (length box) maps → ArePositive chunk → length maps ≡ length chunk
    → IsOfBox maps chunk key box (lows box) → IsOfBox maps chunk key box cell
    → pos (place_within chunk (numbers (map (map_value [] cell) maps)))
    ≡ pos (place_within chunk (numbers (map (map_value [] (lows box)) maps))) +ℤ at_chunk (chunk_steps (length box) maps chunk) (from_lows box cell)
place-of-cell box maps chunk key cell g p l first h =
    let offs = length-lows box cell h.between in
    let q = places-from maps chunk box cell g p l h.between h.from_zero first.from_zero (h.of_chunk ∙ sym first.of_chunk) in
    let g2 = rw (← offs) at g in
    let t = total-steps maps chunk (from_lows box cell) g2 ∙ ap (λ n. at_chunk (chunk_steps n maps chunk) (from_lows box cell)) offs in
    q ∙ ap (λ z. pos (place_within chunk (numbers (map (map_value [] (lows box)) maps))) +ℤ z) t

-- the pairs of a box are those of nested loops from its first cell on
pub box-looped : (dims box : List Bounds) (maps : List OutMap) (chunk key : List ℕ) → AreAbove dims box → EachGoes (length box) maps → ArePositive chunk → length maps ≡ length chunk
    → IsOfBox maps chunk key box (lows box) → AllByRecursion (IsOfBox maps chunk key box) (cells_of box)
    → map (pair_at_cell dims maps chunk) (cells_of box)
    ≡ looped (loops_of box (view_steps dims) (chunk_steps (length box) maps chunk)) (cell_place dims (lows box)) (pos (place_within chunk (numbers (map (map_value [] (lows box)) maps))))
box-looped dims box maps chunk key a g p l first all =
    let v = cell_place dims (lows box) in
    let c = pos (place_within chunk (numbers (map (map_value [] (lows box)) maps))) in
    map-agree (IsOfBox maps chunk key box) (pair_at_cell dims maps chunk) (pair_from box (view_steps dims) (chunk_steps (length box) maps chunk) v c) one (cells_of box) all
    ∙ cells-looped box (view_steps dims) (chunk_steps (length box) maps chunk) v c (length-view dims ∙ sym (above-length dims box a)) (length-chunk_steps (length box) maps chunk)
  where
    length-view : (ds : List Bounds) → length (view_steps ds) ≡ length ds
    length-view [] = refl
    length-view (d ∷ ds) = ap suc (length-view ds)

    one : (cell : List ℤ) → IsOfBox maps chunk key box cell
        → pair_at_cell dims maps chunk cell ≡ pair_from box (view_steps dims) (chunk_steps (length box) maps chunk) (cell_place dims (lows box)) (pos (place_within chunk (numbers (map (map_value [] (lows box)) maps)))) cell
    one cell h =
        let vs = view_steps dims in
        let view : cell_place dims cell ≡ cell_place dims (lows box) + at_view vs (from_lows box cell) =
        place-steps dims cell ∙ view-from vs dims box cell (length-view dims) a h.between ∙ ap (λ n. n + at_view vs (from_lows box cell)) (sym (place-steps dims (lows box))) in
        let q = place-of-cell box maps chunk key cell g p l first h in
        let place = place_within chunk (numbers (map (map_value [] cell) maps)) in
        let here : place ≡ unsigned_abs (pos (place_within chunk (numbers (map (map_value [] (lows box)) maps))) +ℤ at_chunk (chunk_steps (length box) maps chunk) (from_lows box cell)) =
        omega (arith, ints, q) in
        rw (view, ← here) refl
