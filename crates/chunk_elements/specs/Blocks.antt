-- What bytes say of a block of which some cells are stored, the first index fastest.
use Rattle.std.specs.Prelude.{◌≡◌, ℕ, ◌*◌, ◌<◌, ◌≤◌, ◌++◌, Bool, List, length, slice_index, All}
use Rattle.cells.specs.Numbers.{IsWord}
use Rattle.cells.specs.Bytes.{byte_count, word_bytes}
use Rattle.cells.specs.Elements.{element_bytes}
use Rattle.cells.specs.Places.{cell_count, IsInside, c_place, f_place}
use Rattle.cells.specs.declared.dtype.Dtype.{Dtype}

-- sizes that may be stored for a block: as many as it has, and none greater
pub record AreWithin (block sizes : List ℕ) : Type 0 where
  pub ranks : length sizes ≡ length block
  pub fit : (k : ℕ) → k < length block → slice_index sizes k ≤ slice_index block k

-- the bytes are one element for each cell of these sizes and nothing else, the first index fastest; a cell has its word
-- among those of the block, which stand in C order
pub record StoresWords (dtype : Dtype) (big : Bool) (block sizes bytes words : List ℕ) : Type 0 where
  pub count : length bytes ≡ cell_count sizes * byte_count dtype
  pub elements : (index : List ℕ) → IsInside sizes index
      → element_bytes (byte_count dtype) bytes (f_place sizes index) ≡ word_bytes dtype big (slice_index words (c_place block index))

-- the words are those of the block that the bytes store; a cell that isn't stored has 0
pub record AreStored (dtype : Dtype) (big : Bool) (block sizes bytes words : List ℕ) : Type 0 where
  pub full : length words ≡ cell_count block
  pub are_words : All (IsWord dtype) words
  pub stored : StoresWords dtype big block sizes bytes words
  pub lacking : (index : List ℕ) → IsInside block index → ¬ IsInside sizes index → slice_index words (c_place block index) ≡ 0

-- the bytes go on with the elements of a block's words
pub record AddsBlock (dtype : Dtype) (big : Bool) (block sizes words before after : List ℕ) : Type 0 where
  pub added : (bytes : List ℕ) × (after ≡ before ++ bytes) × StoresWords dtype big block sizes bytes words
