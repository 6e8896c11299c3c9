-- What is left of a chunk once staged words are laid over it.
use Rattle.std.specs.Prelude.{◌≡◌, ℕ, List, Option, Some, None}
use Rattle.cells.specs.Dense.{DenseCells}
use Rattle.cells.specs.Elements.{word_at}
use Rattle.cells.specs.Places.{IsInside}
use Rattle.chunk_forms.specs.declared.form.Form.{Form}
use Rattle.chunk_forms.specs.Grammar.{WritesChunk}
use Rattle.chunk_forms.specs.Metadata.{shape_of, chunk_shape_of, dtype_of, fill_of}
use Rattle.chunk_laying.specs.Laid.{laid_word}

-- every cell of the chunk has the fill
abbrev pub IsFill : Form → (List ℕ → ℕ) → Type 0
IsFill form word = (at : List ℕ) → IsInside (chunk_shape_of form) at → word at ≡ fill_of form

-- the bytes that are written for a chunk of these words; none where all are the fill
abbrev pub AreBytesOf : Form → List ℕ → (List ℕ → ℕ) → Option (List ℕ) → Type 0
AreBytesOf form index word None = IsFill form word
AreBytesOf form index word (Some bytes) = WritesChunk form index (shape_of form) bytes word × ¬ (IsFill form word)

-- the bytes of a stored chunk with the staged words over a base's
pub record IsLeft (form : Form) (index : List ℕ) (staged : List (Option ℕ)) (base : Option DenseCells) (bytes : Option (List ℕ)) : Type 0 where
  pub cells : DenseCells
  pub laid : (at : List ℕ) → IsInside (chunk_shape_of form) at
      → word_at cells at ≡ laid_word (shape_of form) (chunk_shape_of form) index (fill_of form) staged base at
  pub written : AreBytesOf form index (word_at cells) bytes

-- the same, of these cells
pub record IsLeftAs (form : Form) (index : List ℕ) (staged : List (Option ℕ)) (base : Option DenseCells) (cells : DenseCells) (bytes : Option (List ℕ)) : Type 0 where
  pub dtype : cells.dtype ≡ dtype_of form
  pub shape : cells.shape ≡ chunk_shape_of form
  pub laid : (at : List ℕ) → IsInside (chunk_shape_of form) at
      → word_at cells at ≡ laid_word (shape_of form) (chunk_shape_of form) index (fill_of form) staged base at
  pub written : AreBytesOf form index (word_at cells) bytes
