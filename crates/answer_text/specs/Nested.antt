-- The text of the numbers of a shape, in nested lists.
use Rattle.std.specs.Prelude.{ℕ, zero, suc, ◌≡◌, ◌≤◌, List, [], ◌∷◌, take, drop, slice_index}
use Rattle.std.specs.Fmt.{signed_decimal}
use Rattle.cells.specs.Numbers.{number_of}
use Rattle.cells.specs.Places.{cell_count}
use Rattle.cells.specs.declared.dtype.Dtype.{Dtype}
use Rattle.transform_json.specs.Written.{before_zero}
use Rattle.answer_text.specs.Pieces.{list_text}

-- the number that a word stands for
unfoldable pub word_text : Dtype → ℕ → List ℕ
word_text dtype word = signed_decimal (number_of dtype word)

-- so many rows of n words each
abbrev pub rows : ℕ → ℕ → List ℕ → List (List ℕ)
rows zero n words = []
rows (suc count) n words = take n words ∷ rows count n (drop n words)

-- the numbers of words in C order, nested as the shape says; one number where the rank is 0
abbrev pub values_text : Dtype → List ℕ → List ℕ → List ℕ
values_text dtype [] words = word_text dtype (slice_index words 0)
values_text dtype (size ∷ []) words = list_text (word_text dtype) words
values_text dtype (size ∷ s ∷ shape) words = list_text (values_text dtype (s ∷ shape)) (rows size (cell_count (s ∷ shape)) words)

-- where there is no cell, 2^22 lists at most stand before a size of 0
abbrev pub HasFewLists : List ℕ → Type 0
HasFewLists shape = cell_count shape ≡ 0 → cell_count (before_zero shape) ≤ 4194304
