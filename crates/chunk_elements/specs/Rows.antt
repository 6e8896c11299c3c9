-- Words and elements, row by row.
use Rattle.std.specs.Prelude.{ℕ, ◌+◌, ◌-◌, ◌*◌, Bool, false, ◌&&◌, ◌==◌, if◌then◌else◌, List, [], ◌∷◌, ◌++◌, map, take, drop, replicate, slice_index}
use Rattle.std.specs.List.{flat_map, range_with_len}
use Rattle.cells.specs.Bytes.{byte_count, word_bytes, word_of_bytes}
use Rattle.cells.specs.Places.{cell_count}
use Rattle.cells.specs.declared.dtype.Dtype.{Dtype}

-- the word of the element that begins at a byte
abbrev pub word_in : Dtype → Bool → List ℕ → ℕ → ℕ
word_in dtype big elements from = word_of_bytes dtype big (take (byte_count dtype) (drop from elements))

-- the words of a row of elements, of which one begins `stride` bytes behind the other, the first at `from`
abbrev pub words_of_row : Dtype → Bool → ℕ → ℕ → ℕ → List ℕ → List ℕ
words_of_row dtype big count stride from elements = map (λ i. word_in dtype big elements (from + i * stride)) (range_with_len 0 count)

-- the elements of a row of words, of which one stands `stride` places behind the other, the first at `from`
abbrev pub elements_of_row : Dtype → Bool → ℕ → ℕ → ℕ → List ℕ → List ℕ
elements_of_row dtype big count stride from words = flat_map (λ i. word_bytes dtype big (slice_index words (from + i * stride))) (range_with_len 0 count)

-- the elements of a row in one byte order, one after another in another: the first begins at the byte `from`, and each further one `stride`
-- bytes behind the one before it
abbrev pub moved_row : Dtype → Bool → Bool → ℕ → ℕ → ℕ → List ℕ → List ℕ
moved_row dtype big to count stride from elements = flat_map (λ i. word_bytes dtype to (word_in dtype big elements (from + i * stride))) (range_with_len 0 count)

-- the words of a block's cells in C order, where cells of these sizes are stored: the first element begins at the byte
-- `from`, and a step of the first index leads `stride` bytes further; a cell that isn't stored has 0
abbrev pub words_of_rows : Dtype → Bool → List ℕ → List ℕ → ℕ → ℕ → List ℕ → List ℕ
words_of_rows dtype big block [] stride from elements = word_in dtype big elements from ∷ []
words_of_rows dtype big [] (size ∷ sizes) stride from elements = []
words_of_rows dtype big (most ∷ block) (size ∷ sizes) stride from elements =
    flat_map (λ i. words_of_rows dtype big block sizes (stride * size) (from + i * stride) elements) (range_with_len 0 size)
    ++ replicate ((most - size) * cell_count block) 0

-- words as items one after another, the lowest byte first
abbrev pub items_of : Dtype → List ℕ → List ℕ
items_of dtype words = flat_map (word_bytes dtype false) words

-- the elements of cells of these sizes, the last index fastest, of words of a block in F order: the first word stands at
-- `from`, and a step of the first index leads `stride` words further
abbrev pub elements_of_rows : Dtype → Bool → List ℕ → List ℕ → ℕ → ℕ → List ℕ → List ℕ
elements_of_rows dtype big block [] stride from words = word_bytes dtype big (slice_index words from)
elements_of_rows dtype big [] (size ∷ sizes) stride from words = []
elements_of_rows dtype big (most ∷ block) (size ∷ sizes) stride from words =
    flat_map (λ i. elements_of_rows dtype big block sizes (stride * most) (from + i * stride) words) (range_with_len 0 size)

-- the elements of cells of these sizes, the last index fastest, in one byte order, of items of a block in F order: the first item begins at
-- the byte `from`, and a step of the first index leads `stride` bytes further
abbrev pub moved_rows : Dtype → Bool → List ℕ → List ℕ → ℕ → ℕ → List ℕ → List ℕ
moved_rows dtype to block [] stride from items = word_bytes dtype to (word_in dtype false items from)
moved_rows dtype to [] (size ∷ sizes) stride from items = []
moved_rows dtype to (most ∷ block) (size ∷ sizes) stride from items =
    flat_map (λ i. moved_rows dtype to block sizes (stride * most) (from + i * stride) items) (range_with_len 0 size)

-- whether a dimension is one cell, which is stored
abbrev pub is_single : ℕ → ℕ → Bool
is_single most size = most == 1 && size == 1

-- of numbers that dimensions have, those of the dimensions that aren't one stored cell
abbrev pub of_long : List ℕ → List ℕ → List ℕ → List ℕ
of_long [] block sizes = []
of_long (n ∷ numbers) [] sizes = []
of_long (n ∷ numbers) (most ∷ block) [] = []
of_long (n ∷ numbers) (most ∷ block) (size ∷ sizes) =
    if is_single most size then of_long numbers block sizes else n ∷ of_long numbers block sizes
