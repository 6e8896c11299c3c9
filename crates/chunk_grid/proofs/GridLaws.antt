-- Chunk indices, boxes, and places in a chunk.
use Rattle.std.proofs.Common.{◌≡◌, ◌∙◌, ℕ, zero, suc, ◌+◌, ◌*◌, ◌/◌, ◌%◌, ◌<◌, ◌≤◌, ℤ, pos, ◌≤ℤ◌, unsigned_abs, List, [], ◌∷◌, ◌++◌, length, take, get_or, refl, sym, ap, arith}
use Rattle.std.specs.List.{All}
use Rattle.std.proofs.lemmas.List.Elements.{All-tail}
use Rattle.std.proofs.Math.ListN.{set}
use Rattle.std.proofs.Math.Nat.{mod-lt}
use Rattle.std.proofs.lemmas.Nat.{div-add-mod'}
use Rattle.std.proofs.lemmas.List.{length-map, take_more, take_more_set}
use Rattle.cells.specs.Places.{cell_count, c_index, IsInside}
use Rattle.cells.proofs.Laws.{c_place-lt, c_index-c_place}
use Rattle.chunk_grid.specs.Grid.{AreFromZero, IsInShape, IsInBox, numbers, chunk_index, within_chunk, in_array, place_within}

-- an index vector inside a shape has its length, and no index below 0
pub length-in_shape : (shape : List ℕ) (index : List ℤ) → IsInShape shape index → length index ≡ length shape
length-in_shape [] [] h = refl
length-in_shape [] (x ∷ index) h = absurd h
length-in_shape (n ∷ shape) [] h = absurd h
length-in_shape (n ∷ shape) (x ∷ index) h = ap suc (length-in_shape shape index h.2)

pub from_zero_in_shape : (shape : List ℕ) (index : List ℤ) → IsInShape shape index → AreFromZero index
from_zero_in_shape [] [] h = tt
from_zero_in_shape [] (x ∷ index) h = absurd h
from_zero_in_shape (n ∷ shape) [] h = absurd h
from_zero_in_shape (n ∷ shape) (x ∷ index) h = (h.0, from_zero_in_shape shape index h.2)

pub length-numbers : (index : List ℤ) → length (numbers index) ≡ length index
length-numbers index = length-map index unsigned_abs

-- no index is below 0, at each place
pub from_zero_at : (index : List ℤ) (k : ℕ) → AreFromZero index → k < length index → pos 0 ≤ℤ get_or index k (pos 0)
from_zero_at [] k h lt = absurd (omega arith)
from_zero_at (x ∷ index) zero h lt = h.0
from_zero_at (x ∷ index) (suc k) h lt = from_zero_at index k h.1 (omega arith)

-- no size of a chunk is 0
abbrev pub ArePositive : List ℕ → Type 0
ArePositive chunk = All (λ size. 0 < size) chunk

rest_positive : (n : ℕ) (chunk : List ℕ) → ArePositive (n ∷ chunk) → ArePositive chunk
rest_positive n chunk h = All-tail (λ size. 0 < size) n chunk h

first_positive : (n : ℕ) (chunk : List ℕ) → ArePositive (n ∷ chunk) → 0 < n
first_positive n chunk h = h 0 0 (omega arith)

-- the numbers at a place
pub chunk_index-at : (chunk : List ℕ) (index : List ℤ) (k : ℕ) → length index ≡ length chunk → k < length chunk
    → get_or (chunk_index chunk (numbers index)) k 0 ≡ unsigned_abs (get_or index k (pos 0)) / get_or chunk k 0
chunk_index-at [] index k same lt = absurd (omega arith)
chunk_index-at (n ∷ chunk) [] k same lt = absurd (omega arith)
chunk_index-at (n ∷ chunk) (x ∷ index) zero same lt = refl
chunk_index-at (n ∷ chunk) (x ∷ index) (suc k) same lt = chunk_index-at chunk index k (omega arith) (omega arith)

pub within_chunk-at : (chunk : List ℕ) (index : List ℤ) (k : ℕ) → length index ≡ length chunk → k < length chunk
    → get_or (within_chunk chunk (numbers index)) k 0 ≡ unsigned_abs (get_or index k (pos 0)) % get_or chunk k 0
within_chunk-at [] index k same lt = absurd (omega arith)
within_chunk-at (n ∷ chunk) [] k same lt = absurd (omega arith)
within_chunk-at (n ∷ chunk) (x ∷ index) zero same lt = refl
within_chunk-at (n ∷ chunk) (x ∷ index) (suc k) same lt = within_chunk-at chunk index k (omega arith) (omega arith)

pub length-chunk_index : (chunk index : List ℕ) → length index ≡ length chunk → length (chunk_index chunk index) ≡ length chunk
length-chunk_index [] [] same = refl
length-chunk_index [] (x ∷ index) same = refl
length-chunk_index (n ∷ chunk) [] same = absurd (omega arith)
length-chunk_index (n ∷ chunk) (x ∷ index) same = ap suc (length-chunk_index chunk index (omega arith))

-- one index more was written
pub chunk_index-more : (chunk : List ℕ) (index : List ℤ) (out : List ℕ) (k v : ℕ) → length index ≡ length chunk → length out ≡ length chunk → k < length chunk
    → v ≡ unsigned_abs (get_or index k (pos 0)) / get_or chunk k 0 → take k out ≡ take k (chunk_index chunk (numbers index))
    → take (k + 1) (set out k v) ≡ take (k + 1) (chunk_index chunk (numbers index))
chunk_index-more chunk index out k v same room lt is so_far =
    let whole = chunk_index chunk (numbers index) in
    let long = length-chunk_index chunk (numbers index) (length-numbers index ∙ same) in
    take_more_set out k v (omega arith)
    ∙ ap (λ xs. xs ++ v ∷ []) so_far
    ∙ ap (λ x. take k whole ++ x ∷ []) (is ∙ sym (chunk_index-at chunk index k same lt))
    ∙ sym (take_more whole k 0 (omega arith))

-- an index vector lies in the box of its chunk
in_box_at : (n x : ℕ) → 0 < n → (x / n * n ≤ x) × (x < x / n * n + n)
in_box_at n x above =
    let split : x / n * n + x % n ≡ x = div-add-mod' x n in
    let below : x % n < n = mod-lt x above in
    (omega arith, omega arith)

pub in_box_of_chunk : (chunk index : List ℕ) → length index ≡ length chunk → ArePositive chunk → IsInBox chunk (chunk_index chunk index) index
in_box_of_chunk [] [] same above = tt
in_box_of_chunk [] (x ∷ index) same above = absurd (omega arith)
in_box_of_chunk (n ∷ chunk) [] same above = absurd (omega arith)
in_box_of_chunk (n ∷ chunk) (x ∷ index) same above =
    let here = in_box_at n x (first_positive n chunk above) in
    (here.0, here.1, in_box_of_chunk chunk index (omega arith) (rest_positive n chunk above))

-- and within it inside the chunk
pub inside_within : (chunk index : List ℕ) → length index ≡ length chunk → ArePositive chunk → IsInside chunk (within_chunk chunk index)
inside_within [] [] same above = tt
inside_within [] (x ∷ index) same above = absurd (omega arith)
inside_within (n ∷ chunk) [] same above = absurd (omega arith)
inside_within (n ∷ chunk) (x ∷ index) same above = (mod-lt x (first_positive n chunk above), inside_within chunk index (omega arith) (rest_positive n chunk above))

-- the chunk and the index vector within it tell the index vector
pub in_array-split : (chunk index : List ℕ) → length index ≡ length chunk → in_array chunk (chunk_index chunk index) (within_chunk chunk index) ≡ index
in_array-split [] [] same = refl
in_array-split [] (x ∷ index) same = absurd (omega arith)
in_array-split (n ∷ chunk) [] same = absurd (omega arith)
in_array-split (n ∷ chunk) (x ∷ index) same = λ i. div-add-mod' x n i ∷ in_array-split chunk index (omega arith) i

-- and so do the chunk and the place in it
pub in_array-place : (chunk index : List ℕ) → length index ≡ length chunk → ArePositive chunk
    → in_array chunk (chunk_index chunk index) (c_index chunk (place_within chunk index)) ≡ index
in_array-place chunk index same above =
    ap (in_array chunk (chunk_index chunk index)) (c_index-c_place chunk (within_chunk chunk index) (inside_within chunk index same above))
    ∙ in_array-split chunk index same

pub place_within-lt : (chunk index : List ℕ) → length index ≡ length chunk → ArePositive chunk → place_within chunk index < cell_count chunk
place_within-lt chunk index same above = c_place-lt chunk (within_chunk chunk index) (inside_within chunk index same above)
