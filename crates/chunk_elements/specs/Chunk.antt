-- What a chunk's bytes spell.
use Rattle.std.specs.Prelude.{◌≡◌, ℕ, ◌*◌, Bool, List, length}
use Rattle.cells.specs.Numbers.{IsWord}
use Rattle.cells.specs.Bytes.{byte_count, word_bytes, word_of_bytes}
use Rattle.cells.specs.Places.{cell_count, IsInside, place_of}
use Rattle.cells.specs.declared.dtype.Dtype.{Dtype}
use Rattle.cells.specs.declared.order.Order.{Order}
pub use Rattle.cells.specs.Elements.{element_bytes, word_at}

-- how the elements of a chunk lie: the chunk's shape in cells, what an element is, `big` for the highest byte first, and the order
pub record Layout : Type 0 where
  pub chunks : List ℕ
  pub dtype : Dtype
  pub big : Bool
  pub order : Order

-- the bytes are a chunk that lies so and nothing else, in which each index vector of the chunk has this word: the
-- elements stand in the stated order, each in the stated byte order
pub record SpellsChunk (m : Layout) (bytes : List ℕ) (word : List ℕ → ℕ) : Type 0 where
  pub count : length bytes ≡ cell_count m.chunks * byte_count m.dtype
  pub elements : (index : List ℕ) → IsInside m.chunks index
      → element_bytes (byte_count m.dtype) bytes (place_of m.chunks m.order index) ≡ word_bytes m.dtype m.big (word index)
  pub are_words : (index : List ℕ) → IsInside m.chunks index → IsWord m.dtype (word index)

-- how many bytes a chunk has
abbrev pub chunk_len : Layout → ℕ
chunk_len m = cell_count m.chunks * byte_count m.dtype

-- the word that a chunk's bytes give an index vector
abbrev pub chunk_word : Layout → List ℕ → List ℕ → ℕ
chunk_word m bytes index = word_of_bytes m.dtype m.big (element_bytes (byte_count m.dtype) bytes (place_of m.chunks m.order index))
