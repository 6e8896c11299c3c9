-- An array's cells and its chunks.
use Rattle.std.specs.Prelude.{◌≡◌, ℕ, ◌+◌, ◌*◌, ◌/◌, ◌%◌, ◌^◌, ◌-◌, ◌<◌, ◌≤◌, ℤ, pos, ◌≤ℤ◌, unsigned_abs, List, [], ◌∷◌, length, map}
use Rattle.std.specs.List.{All}
use Rattle.cells.specs.Places.{cell_count, c_place}
pub use Rattle.index_transform.specs.Shapes.{IsInShape}

-- an array's shape, and the shape of each of its chunks
pub record Shapes : Type 0 where
  pub shape : List ℕ
  pub chunk : List ℕ

-- the ranks agree and are at most 32, each index of the shape is a finite one, and a chunk has 1 to 2 ^ 24 cells
pub record IsGrid (grid : Shapes) : Type 0 where
  pub rank : length grid.shape ≤ 32
  pub same : length grid.chunk ≡ length grid.shape
  pub finite : All (λ size. size ≤ 2 ^ 62 - 2) grid.shape
  pub positive : All (λ size. 0 < size) grid.chunk
  pub small : cell_count grid.chunk ≤ 2 ^ 24

-- no index is below 0
abbrev pub AreFromZero : List ℤ → Type 0
AreFromZero [] = Unit {0}
AreFromZero (x ∷ index) = (pos 0 ≤ℤ x) × AreFromZero index

-- the numbers of an index vector that has none below 0
abbrev pub numbers : List ℤ → List ℕ
numbers index = map unsigned_abs index

-- the chunk index of an index vector: along each dimension the index divided by the chunk's size
abbrev pub chunk_index : List ℕ → List ℕ → List ℕ
chunk_index (n ∷ chunk) (x ∷ index) = x / n ∷ chunk_index chunk index
chunk_index chunk index = []

-- the index vector within its chunk
abbrev pub within_chunk : List ℕ → List ℕ → List ℕ
within_chunk (n ∷ chunk) (x ∷ index) = x % n ∷ within_chunk chunk index
within_chunk chunk index = []

-- the index vector in the array of one within the chunk of this index
abbrev pub in_array : List ℕ → List ℕ → List ℕ → List ℕ
in_array (n ∷ chunk) (c ∷ place) (x ∷ index) = (c * n + x) ∷ in_array chunk place index
in_array chunk place index = []

-- the index vector lies in the box of the chunk of this index
abbrev pub IsInBox : List ℕ → List ℕ → List ℕ → Type 0
IsInBox [] [] [] = Unit {0}
IsInBox (n ∷ chunk) (c ∷ place) (x ∷ index) = (c * n ≤ x) × (x < c * n + n) × IsInBox chunk place index
IsInBox chunk place index = ⊥

-- the place of an index vector in its chunk, in C order
abbrev pub place_within : List ℕ → List ℕ → ℕ
place_within chunk index = c_place chunk (within_chunk chunk index)
