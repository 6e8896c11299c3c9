-- The pairs of a chunk, by the cells of a view.
use Rattle.std.proofs.Common.{◌≡◌, ◌∙◌, ℕ, ◌+◌, ℤ, List, [], ◌∷◌, map, Bool, true, false, cond, refl, ap}
use Rattle.std.specs.Prelude.{filter}
use Rattle.std.specs.List.{enumerate_from}
use Rattle.std.specs.Str.{bytes_eq}
use Rattle.std.proofs.lemmas.Simd.{map-map}
use Rattle.chunk_grid.specs.Grid.{chunk_index, place_within}
use Rattle.chunk_grid.specs.Pieces.{Pair, pair_of, is_of, pairs_in}

-- what is kept of what a function makes
pub filter-mapped : {X Y : Type 0} (p : Y → Bool) (f : X → Y) (xs : List X) → filter p (map f xs) ≡ map f (filter (λ x. p (f x)) xs)
filter-mapped p f [] = refl
filter-mapped {X} {Y} p f (x ∷ xs) = told (p (f x)) (filter-mapped p f xs)
  where
    told : (b : Bool) → filter p (map f xs) ≡ map f (filter (λ x. p (f x)) xs)
        → cond b (f x ∷ filter p (map f xs)) (filter p (map f xs)) ≡ map f (cond b (x ∷ filter (λ x. p (f x)) xs) (filter (λ x. p (f x)) xs))
    told true rest = ap (λ ys. f x ∷ ys) rest
    told false rest = rest

-- a place beside the value at a cell
abbrev with_value : (List ℤ → List ℕ) → ℕ × List ℤ → ℕ × List ℕ
with_value value p = (p.0, value p.1)

enumerated : (value : List ℤ → List ℕ) (n : ℕ) (cells : List (List ℤ)) → enumerate_from n (map value cells) ≡ map (with_value value) (enumerate_from n cells)
enumerated value n [] = refl
enumerated value n (cell ∷ cells) = ap (λ ps. (n, value cell) ∷ ps) (enumerated value (n + 1) cells)

-- the values of a chunk are those of its cells
pub filtered-pairs : (chunk c : List ℕ) (value : List ℤ → List ℕ) (cells : List (List ℤ))
    → filter (is_of chunk c) (enumerate_from 0 (map value cells)) ≡ map (λ p. (p.0, value p.1)) (filter (λ p. bytes_eq (chunk_index chunk (value p.1)) c) (enumerate_from 0 cells))
filtered-pairs chunk c value cells =
    ap (filter (is_of chunk c)) (enumerated value 0 cells)
    ∙ filter-mapped (is_of chunk c) (with_value value) (enumerate_from 0 cells)

-- and its pairs too, where a cell tells its place in the view
pub pairs-of_cells : (chunk c : List ℕ) (value : List ℤ → List ℕ) (cells : List (List ℤ)) (place : List ℤ → ℕ)
    → enumerate_from 0 cells ≡ map (λ cell. (place cell, cell)) cells
    → pairs_in chunk c (map value cells)
    ≡ map (λ cell. let p : Pair = record { view = place cell; chunk = place_within chunk (value cell) } in p) (filter (λ cell. bytes_eq (chunk_index chunk (value cell)) c) cells)
pairs-of_cells chunk c value cells place placed =
    let kept = filter (λ cell. bytes_eq (chunk_index chunk (value cell)) c) cells in
    let in_chunk : ℕ × List ℤ → Bool = λ p. bytes_eq (chunk_index chunk (value p.1)) c in
    ap (map (pair_of chunk)) (filtered-pairs chunk c value cells)
    ∙ ap (λ ps. map (pair_of chunk) (map (with_value value) (filter in_chunk ps))) placed
    ∙ ap (λ ps. map (pair_of chunk) (map (with_value value) ps)) (filter-mapped in_chunk (λ cell. (place cell, cell)) cells)
    ∙ ap (map (pair_of chunk)) (map-map (with_value value) (λ cell. (place cell, cell)) kept)
    ∙ map-map (pair_of chunk) (λ cell. (place cell, value cell)) kept
