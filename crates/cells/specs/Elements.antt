-- Elements of one size, one after another, and the words of a dense block.
use Rattle.std.specs.Prelude.{ℕ, ◌*◌, List, take, drop, slice_index}
use Rattle.cells.specs.Dense.{DenseCells}
use Rattle.cells.specs.Places.{c_place}

-- the bytes of the element at a place, where each has `size` bytes
abbrev pub element_bytes : ℕ → List ℕ → ℕ → List ℕ
element_bytes size bytes place = take size (drop (place * size) bytes)

-- the word of an index vector, where the words of a shape stand in C order
abbrev pub word_at : DenseCells → List ℕ → ℕ
word_at cells index = slice_index cells.words (c_place cells.shape index)
