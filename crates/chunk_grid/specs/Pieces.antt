-- The chunks of index vectors, and the places of the vectors in them.
use Rattle.std.specs.Prelude.{ℕ, List, [], ◌∷◌, Bool, map, filter, fold, if◌then◌else◌}
use Rattle.std.specs.List.{list_any, enumerate_from}
use Rattle.std.specs.Str.{bytes_eq}
use Rattle.std.specs.Ordering.{nat_cmp, is_lt}
use Rattle.std.specs.Cmp.Lexicographic.{slice_cmp}
pub use Rattle.cells.specs.Runs.{Pair}
use Rattle.chunk_grid.specs.Grid.{chunk_index, place_within}

-- a chunk's index, and the pairs of its cells
pub record Piece : Type 0 where
  pub chunk : List ℕ
  pub pairs : List Pair

-- the pair of a place and its index vector
abbrev pub pair_of : List ℕ → ℕ × List ℕ → Pair
pair_of chunk target = record { view = target.0; chunk = place_within chunk target.1 }

-- the cell of an index vector lies in the chunk of this index
abbrev pub is_of : List ℕ → List ℕ → ℕ × List ℕ → Bool
is_of chunk c target = bytes_eq (chunk_index chunk target.1) c

-- the pairs of a chunk: the places of its index vectors in rising order, each beside its place in the chunk
abbrev pub pairs_in : List ℕ → List ℕ → List (List ℕ) → List Pair
pairs_in chunk c targets = map (pair_of chunk) (filter (is_of chunk c) (enumerate_from 0 targets))

-- a chunk index put in its place among others in lexical order
abbrev pub placed : List (List ℕ) → List ℕ → List (List ℕ)
placed [] c = c ∷ []
placed (d ∷ chunks) c = if is_lt (slice_cmp nat_cmp c d) then c ∷ d ∷ chunks else d ∷ placed chunks c

-- the same, where it isn't there
abbrev pub among : List (List ℕ) → List ℕ → List (List ℕ)
among chunks c = if list_any (bytes_eq c) chunks then chunks else placed chunks c

-- the chunk indices that occur, in lexical order, each once
abbrev pub touched : List ℕ → List (List ℕ) → List (List ℕ)
touched chunk targets = fold among [] (map (chunk_index chunk) targets)

-- the chunks that occur, in lexical order, each with its pairs
abbrev pub pieces_by_chunk : List ℕ → List (List ℕ) → List Piece
pieces_by_chunk chunk targets = map (λ c. record { chunk = c; pairs = pairs_in chunk c targets }) (touched chunk targets)
