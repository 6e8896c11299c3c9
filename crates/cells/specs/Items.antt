-- Items of one size in C order, the lowest byte first, and the words that they spell.
use Rattle.std.specs.Prelude.{◌≡◌, ℕ, ◌*◌, ◌<◌, ◌≤◌, ◌^◌, Bool, false, if◌then◌else◌, List, [], ◌∷◌, length, map, slice_index}
use Rattle.std.specs.List.{range_with_len}
use Rattle.cells.specs.Bytes.{byte_count, word_bytes, word_of_bytes}
use Rattle.cells.specs.Elements.{element_bytes}
use Rattle.cells.specs.Places.{cell_count}
use Rattle.cells.specs.declared.dtype.Dtype.{Dtype}

-- the word of the item at a place
abbrev pub item_at : Dtype → List ℕ → ℕ → ℕ
item_at dtype bytes place = word_of_bytes dtype false (element_bytes (byte_count dtype) bytes place)

-- the words of so many items
unfoldable pub words_in : Dtype → ℕ → List ℕ → List ℕ
words_in dtype count bytes = map (item_at dtype bytes) (range_with_len 0 count)

-- the bytes are these words one after another, the lowest byte first, and nothing else
pub record SpellsItems (dtype : Dtype) (bytes words : List ℕ) : Type 0 where
  pub count : length bytes ≡ length words * byte_count dtype
  pub items : (place : ℕ) → place < length words → element_bytes (byte_count dtype) bytes place ≡ word_bytes dtype false (slice_index words place)

-- a rank of at most 32, at most 2 ^ 24 cells, and an item of the dtype for each
pub record AreItems (dtype : Dtype) (shape bytes : List ℕ) : Type 0 where
  pub rank : length shape ≤ 32
  pub small : cell_count shape ≤ 2 ^ 24
  pub full : length bytes ≡ cell_count shape * byte_count dtype

-- words with others in their place wherever a mask is set
abbrev pub words_where : List Bool → List ℕ → List ℕ → List ℕ
words_where [] over words = words
words_where (covered ∷ mask) [] words = words
words_where (covered ∷ mask) (other ∷ over) [] = []
words_where (covered ∷ mask) (other ∷ over) (word ∷ words) = (if covered then other else word) ∷ words_where mask over words
