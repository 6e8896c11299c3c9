-- The values of an answer's members.
use Rattle.std.specs.Prelude.{ℕ, ℤ, List, [], ◌∷◌, map, slice_index}
use Rattle.serde_json.specs.Data.{Data, string}
use Rattle.json_forms.specs.Lists.{list_of}
use Rattle.json_forms.specs.Numbers.{natural, integer}
use Rattle.cells.specs.DtypeNames.{dtype_name}
use Rattle.cells.specs.Numbers.{number_of}
use Rattle.cells.specs.Places.{cell_count}
use Rattle.cells.specs.declared.dtype.Dtype.{Dtype}
use Rattle.answer_text.specs.Nested.{rows}

-- numbers of events, places, and other numbers from 0 on
abbrev pub numbers_data : List ℕ → Data
numbers_data ns = list_of (map natural ns)

-- an index vector
abbrev pub indices_data : List ℤ → Data
indices_data zs = list_of (map integer zs)

-- the name of a dtype
abbrev pub dtype_data : Dtype → Data
dtype_data dtype = string (dtype_name dtype)

-- the number that a word stands for
abbrev pub word_data : Dtype → ℕ → Data
word_data dtype word = integer (number_of dtype word)

-- the numbers of words in C order, nested as the shape says; one number where the rank is 0
abbrev pub values_data : Dtype → List ℕ → List ℕ → Data
values_data dtype [] words = word_data dtype (slice_index words 0)
values_data dtype (size ∷ []) words = list_of (map (word_data dtype) words)
values_data dtype (size ∷ s ∷ shape) words =
    list_of (map (values_data dtype (s ∷ shape)) (rows size (cell_count (s ∷ shape)) words))
