-- How single members are judged.
use Rattle.std.specs.Prelude.{ℕ, ℤ, pos, List, length, Bool, ◌&&◌, ◌==◌, int_le, Option, Some, None, Result, Ok, Err, option_and_then, option_map, is_some, if◌then◌else◌}
use Rattle.std.specs.Ordering.{int_eq}
use Rattle.serde_json.specs.Data.{Data}
use Rattle.serde_json.specs.Find.{get, as_str, as_null, as_object}
use Rattle.cells.specs.Numbers.{least_of, greatest_of, word_of}
use Rattle.cells.specs.Shapes.{is_shape, is_chunk_shape}
use Rattle.cells.specs.declared.dtype.Dtype.{Dtype}
use Rattle.json_forms.specs.Numbers.{whole_number}
use Rattle.json_forms.specs.Lists.{list_items, u64_list}
use Rattle.meta_forms.specs.declared.error.Fault.{Fault}
use Rattle.meta_forms.specs.declared.error.Fault.TheVariants.{Bad, Unsupported}

-- the text of a member of an object
abbrev pub text_in : List ℕ → Data → Option (List ℕ)
text_in name d = option_and_then as_str (get name d)

-- the whole number of a member of an object
abbrev pub whole_at : List ℕ → Data → Option ℤ
whole_at name d = option_and_then whole_number (get name d)

-- the list of whole numbers from 0 on of a member of an object
abbrev pub sizes_at : List ℕ → Data → Option (List ℕ)
sizes_at name d = option_and_then u64_list (get name d)

-- there is such a member
abbrev pub is_there : List ℕ → Data → Bool
is_there name d = is_some (get name d)

-- a member is null
abbrev pub is_null_at : List ℕ → Data → Bool
is_null_at name d = is_some (option_and_then as_null (get name d))

-- a member is an object
abbrev pub is_object_at : List ℕ → Data → Bool
is_object_at name d = is_some (option_and_then as_object (get name d))

-- how many items a list has
abbrev pub list_len : Data → Option ℕ
list_len d = option_map length (list_items d)

-- how many items a member has that is a list
abbrev pub list_len_at : List ℕ → Data → Option ℕ
list_len_at name d = option_and_then list_len (get name d)

-- a format's number has to be this one; another whole number isn't supported
abbrev pub judged_format : ℕ → Option ℤ → Result (Unit {0}) Fault
judged_format version None = Err Bad
judged_format version (Some number) = if int_eq number (pos version) then Ok tt else Err Unsupported

-- the number lies in the dtype's range
abbrev pub holds : Dtype → ℤ → Bool
holds dtype number = int_le (least_of dtype) number && int_le number (greatest_of dtype)

-- the word of a number, which has to lie in the dtype's range
abbrev pub judged_word : Dtype → Option ℤ → Result ℕ Fault
judged_word dtype None = Err Bad
judged_word dtype (Some number) = if holds dtype number then Ok (word_of number) else Err Bad

-- sizes that have to be an array's
abbrev pub judged_shape : Option (List ℕ) → Result (List ℕ) Fault
judged_shape None = Err Bad
judged_shape (Some sizes) = if is_shape sizes then Ok sizes else Err Bad

-- sizes that have to be those of a chunk of an array of this rank
abbrev pub judged_chunks : ℕ → Option (List ℕ) → Result (List ℕ) Fault
judged_chunks rank None = Err Bad
judged_chunks rank (Some sizes) = if length sizes == rank && is_chunk_shape sizes then Ok sizes else Err Bad

-- a list that has to be empty; another list isn't supported
abbrev pub judged_len : Option ℕ → Result (Unit {0}) Fault
judged_len None = Err Bad
judged_len (Some len) = if len == 0 then Ok tt else Err Unsupported
