-- The words that the values of a write give to the cells of a shape.
use Rattle.std.specs.Prelude.{ℕ, ◌+◌, ℤ, List, [], ◌∷◌, ◌++◌, length, replicate, Bool, ◌&&◌, ◌==◌, Option, Some, None, Result, Ok, Err, option_and_then, int_le, if◌then◌else◌}
use Rattle.serde_json.specs.Data.{Data}
use Rattle.cells.specs.Numbers.{least_of, greatest_of, word_of}
use Rattle.cells.specs.Places.{cell_count}
use Rattle.cells.specs.declared.dtype.Dtype.{Dtype}
use Rattle.json_forms.specs.Numbers.{whole_number}
use Rattle.json_forms.specs.Lists.{list_items}

-- places in nested lists, the outermost first
abbrev pub Path : Type 0
Path = List ℕ

-- the words of cells in C order, or where the values are at fault
abbrev pub Given : Type 0
Given = Result (List ℕ) Path

-- words, and what is given behind them
abbrev pub onto : List ℕ → Given → Given
onto before (Ok words) = Ok (before ++ words)
onto before (Err path) = Err path

-- whether a number lies in the dtype's range, both ends included
abbrev pub is_held : Dtype → ℤ → Bool
is_held dtype number = int_le (least_of dtype) number && int_le number (greatest_of dtype)

-- as often the word of a number in the dtype's range
abbrev pub repeated : Dtype → ℕ → ℤ → Given
repeated dtype count number = if is_held dtype number then Ok (replicate count (word_of number)) else Err []

-- the word of a whole number in the dtype's range
abbrev pub one_word : Dtype → Option ℤ → Given
one_word dtype None = Err []
one_word dtype (Some number) = repeated dtype 1 number

-- what stands at a place of a list, and then what stands behind it
abbrev pub followed : ℕ → Given → Given → Given
followed k (Err path) rest = Err (k ∷ path)
followed k (Ok words) (Err path) = Err path
followed k (Ok words) (Ok more) = Ok (words ++ more)

-- what the items of a list give one after another, the first of them standing at place k
abbrev pub from_items : (Data → Given) → ℕ → List Data → Given
from_items f k [] = Ok []
from_items f k (d ∷ ds) = followed k (f d) (from_items f (k + 1) ds)

-- the items of a list, where there are so many
abbrev pub sized : ℕ → Option (List Data) → Option (List Data)
sized size items = option_and_then (λ ds. if length ds == size then Some ds else None) items

-- what the items of a list give, where there is one
abbrev pub from_list : (Data → Given) → Option (List Data) → Given
from_list f None = Err []
from_list f (Some ds) = from_items f 0 ds

-- what lists give that are nested as the shape says
abbrev pub nested_words : Dtype → List ℕ → Data → Given
nested_words dtype [] d = one_word dtype (whole_number d)
nested_words dtype (size ∷ shape) d = from_list (nested_words dtype shape) (sized size (list_items d))

-- the word of one number for each cell; else what nested lists give
abbrev pub single_or_nested : Dtype → List ℕ → Data → Option ℤ → Given
single_or_nested dtype shape d (Some number) = repeated dtype (cell_count shape) number
single_or_nested dtype shape d None = nested_words dtype shape d

-- the words that values give to the cells of a shape
abbrev pub words_of : Dtype → List ℕ → Data → Given
words_of dtype shape d = single_or_nested dtype shape d (whole_number d)
