-- A chunk's words once staged words are laid over it, and once its array has another shape.
use Rattle.std.specs.Prelude.{false, ◌≡◌, ℕ, true, List, length, Option, Some, None, IsSome, unwrap_or, if◌then◌else◌}
use Rattle.cells.specs.Dense.{DenseCells}
use Rattle.cells.specs.Elements.{word_at}
use Rattle.cells.specs.Places.{IsInside, c_place}
use Rattle.cells.specs.Shapes.{IsChunkShape, is_inside}
use Rattle.rebase_writes.specs.Staged.{staged_at}
use Rattle.history.specs.Chunks.{AreStarts, in_array}

-- the index of a chunk of an array of this shape, also past the shape
pub record IsChunkOf (shape chunk_shape chunk : List ℕ) : Type 0 where
  pub chunks : IsChunkShape chunk_shape
  pub shape_rank : length shape ≡ length chunk_shape
  pub chunk_rank : length chunk ≡ length chunk_shape
  pub starts : AreStarts chunk_shape chunk

-- each cell of the chunk that lies in the array's shape has a staged word
abbrev pub IsCovered : List ℕ → List ℕ → List ℕ → List (Option ℕ) → Type 0
IsCovered shape chunk_shape chunk staged = (index : List ℕ) → IsInside chunk_shape index → is_inside shape (in_array chunk_shape chunk index) ≡ true
    → IsSome (staged_at staged (c_place chunk_shape index))

-- each staged word is of a cell that lies in the array's shape
abbrev pub IsStagedWithin : List ℕ → List ℕ → List ℕ → List (Option ℕ) → Type 0
IsStagedWithin shape chunk_shape chunk staged = (index : List ℕ) → IsInside chunk_shape index → is_inside shape (in_array chunk_shape chunk index) ≡ false
    → staged_at staged (c_place chunk_shape index) ≡ None

-- the word that a chunk has where none is staged; without a chunk it is the fill
abbrev pub word_under : Option DenseCells → ℕ → List ℕ → ℕ
word_under None fill index = fill
word_under (Some base) fill index = word_at base index

-- a word in the array's shape, and the fill past it
abbrev pub word_within : List ℕ → List ℕ → List ℕ → ℕ → List ℕ → ℕ → ℕ
word_within shape chunk_shape chunk fill index word = if is_inside shape (in_array chunk_shape chunk index) then word else fill

-- the word that a commit leaves at an index vector of the chunk: in the array's shape the staged word, or the one under it
abbrev pub laid_word : List ℕ → List ℕ → List ℕ → ℕ → List (Option ℕ) → Option DenseCells → List ℕ → ℕ
laid_word shape chunk_shape chunk fill staged base index =
    word_within shape chunk_shape chunk fill index (unwrap_or (staged_at staged (c_place chunk_shape index)) (word_under base fill index))

-- the word that a new shape leaves at an index vector of the chunk
abbrev pub cut_word : List ℕ → List ℕ → ℕ → DenseCells → List ℕ → ℕ
cut_word shape chunk fill base index = word_within shape base.shape chunk fill index (word_at base index)
