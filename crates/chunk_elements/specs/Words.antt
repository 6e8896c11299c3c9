-- What the bytes of words one after another spell.
use Rattle.std.specs.Prelude.{◌≡◌, ℕ, ◌*◌, ◌<◌, Bool, List, length, slice_index, All}
use Rattle.cells.specs.Numbers.{IsWord}
use Rattle.cells.specs.Bytes.{byte_count, word_bytes}
use Rattle.cells.specs.Elements.{element_bytes}
use Rattle.cells.specs.declared.dtype.Dtype.{Dtype}

-- the bytes are these words one after another, and nothing else
pub record SpellsWords (dtype : Dtype) (big : Bool) (bytes words : List ℕ) : Type 0 where
  pub count : length bytes ≡ length words * byte_count dtype
  pub elements : (place : ℕ) → place < length words → element_bytes (byte_count dtype) bytes place ≡ word_bytes dtype big (slice_index words place)

-- the words are so many, each of the dtype, and the bytes spell them
pub record AreSpelled (dtype : Dtype) (big : Bool) (count : ℕ) (bytes words : List ℕ) : Type 0 where
  pub full : length words ≡ count
  pub are_words : All (IsWord dtype) words
  pub spelled : SpellsWords dtype big bytes words
