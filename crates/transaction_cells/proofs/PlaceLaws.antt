-- Chunk indices and places in chunks, number by number.
use Rattle.std.proofs.Common.{◌≡◌, ◌∙◌, ℕ, zero, suc, ◌+◌, ◌<◌, ◌≤◌, ◌*◌, ◌/◌, ◌%◌, List, [], ◌∷◌, ◌++◌, length, take, drop, get_or, refl, sym, ap, subst, arith}
use Rattle.std.proofs.Math.Nat.{mod-lt}
use Rattle.std.proofs.lemmas.List.{take_more, drop_all}
use Rattle.cells.specs.Places.{cell_count, c_place, IsInside}
use Rattle.cells.specs.Shapes.{IsChunkShape}
use Rattle.cells.proofs.Laws.{c_place-lt}
use Rattle.history.specs.Chunks.{chunk_index, within_chunk}

pub length-chunk_index : (chunk index : List ℕ) → length index ≡ length chunk → length (chunk_index chunk index) ≡ length chunk
length-chunk_index [] [] same = refl
length-chunk_index [] (x ∷ index) same = refl
length-chunk_index (n ∷ chunk) [] same = absurd (omega (arith, same))
length-chunk_index (n ∷ chunk) (x ∷ index) same = ap suc (length-chunk_index chunk index (omega (arith, same)))

chunk_index-at : (chunk index : List ℕ) (k : ℕ) → length index ≡ length chunk → k < length chunk
    → get_or (chunk_index chunk index) k 0 ≡ get_or index k 0 / get_or chunk k 0
chunk_index-at [] index k same lt = absurd (omega (arith, lt))
chunk_index-at (n ∷ chunk) [] k same lt = absurd (omega (arith, same))
chunk_index-at (n ∷ chunk) (x ∷ index) zero same lt = refl
chunk_index-at (n ∷ chunk) (x ∷ index) (suc k) same lt = chunk_index-at chunk index k (omega (arith, same)) (omega (arith, lt))

pub within_chunk-at : (chunk index : List ℕ) (k : ℕ) → length index ≡ length chunk → k < length chunk
    → get_or (within_chunk chunk index) k 0 ≡ get_or index k 0 % get_or chunk k 0
within_chunk-at [] index k same lt = absurd (omega (arith, lt))
within_chunk-at (n ∷ chunk) [] k same lt = absurd (omega (arith, same))
within_chunk-at (n ∷ chunk) (x ∷ index) zero same lt = refl
within_chunk-at (n ∷ chunk) (x ∷ index) (suc k) same lt = within_chunk-at chunk index k (omega (arith, same)) (omega (arith, lt))

-- one number more of the chunk index
pub chunk_index-more : (chunk index ids : List ℕ) (array k v : ℕ) → length index ≡ length chunk → k < length chunk
    → v ≡ get_or index k 0 / get_or chunk k 0 → ids ≡ array ∷ take k (chunk_index chunk index)
    → ids ++ v ∷ [] ≡ array ∷ take (k + 1) (chunk_index chunk index)
chunk_index-more chunk index ids array k v same lt is so_far =
    let long = length-chunk_index chunk index same in
    ap (λ xs. xs ++ v ∷ []) so_far
    ∙ ap (λ x. array ∷ (take k (chunk_index chunk index) ++ x ∷ [])) (is ∙ sym (chunk_index-at chunk index k same lt))
    ∙ ap (λ xs. array ∷ xs) (sym (take_more (chunk_index chunk index) k 0 (omega (arith, long, lt))))

-- the index vector within a chunk lies inside it
inside : (chunk index : List ℕ) → length index ≡ length chunk → ((k : ℕ) → k < length chunk → 1 ≤ get_or chunk k 0) → IsInside chunk (within_chunk chunk index)
inside [] [] same least = tt
inside [] (x ∷ index) same least = absurd (omega (arith, same))
inside (n ∷ chunk) [] same least = absurd (omega (arith, same))
inside (n ∷ chunk) (x ∷ index) same least =
    (mod-lt x (let one = least 0 (omega arith) in omega (arith, one)), inside chunk index (omega (arith, same)) (λ k lt. least (suc k) (omega (arith, lt))))

pub inside_within : (chunk index : List ℕ) → IsChunkShape chunk → length index ≡ length chunk → IsInside chunk (within_chunk chunk index)
inside_within chunk index is same = inside chunk index same is.least

pub place-lt : (chunk index : List ℕ) → IsChunkShape chunk → length index ≡ length chunk → c_place chunk (within_chunk chunk index) < cell_count chunk
place-lt chunk index is same = c_place-lt chunk (within_chunk chunk index) (inside_within chunk index is same)

-- with no dimension left the place so far is the place
pub whole_place : (chunk within : List ℕ) (k place total : ℕ) → length chunk ≤ k → place * cell_count (drop k chunk) + c_place (drop k chunk) (drop k within) ≡ total → place ≡ total
whole_place chunk within k place total done is =
    let none : drop k chunk ≡ [] = drop_all k chunk done in
    let here : place * 1 + 0 ≡ total = subst (λ (ns : List ℕ). place * cell_count ns + c_place ns (drop k within) ≡ total) none is in
    omega (arith, here)
