-- The numbers of an array that a Spec gives, as nested lists of one shape.
use Rattle.std.specs.Prelude.{ℕ, zero, suc, ◌==◌, nat_le, List, [], ◌∷◌, length, codes, Option, Some, None, Result, Ok, Err, option_map, option_and_then, is_some, if◌then◌else◌}
use Rattle.std.specs.List.{flat_map}
use Rattle.serde_json.specs.Data.{Data}
use Rattle.serde_json.specs.Find.{get}
use Rattle.cells.specs.Places.{cell_count}
use Rattle.cells.specs.declared.dtype.Dtype.{Dtype}
use Rattle.want_forms.specs.Made.{default_chunks}
use Rattle.json_forms.specs.Lists.{list_items, all_of}
use Rattle.json_forms.specs.Numbers.{whole_number}
use Rattle.meta_forms.specs.declared.error.Fault.{Fault}
use Rattle.meta_forms.specs.declared.error.Fault.TheVariants.{Bad}
use Rattle.want_forms.specs.Asking.{if_right, word_asked}
use Rattle.spec_forms.specs.declared.error.SpecError.{SpecError}
use Rattle.spec_forms.specs.declared.numbers.Nested.{Nested}
use Rattle.spec_forms.specs.declared.leaf.SpecLeaf.{SpecLeaf}
use Rattle.spec_forms.specs.declared.leaf.SpecLeaf.TheVariants.{Given}
use Rattle.spec_forms.specs.Faults.{◌>>=◌, judged_in_turn}
use Rattle.spec_forms.specs.Members.{judged_dtype, required, false_at}

-- the members of a Spec that gives numbers
abbrev pub given_members : List (List ℕ)
given_members =
    codes "array" ∷ codes "assume_metadata" ∷ codes "context" ∷ codes "data_copy_concurrency" ∷ codes "delete_existing"
    ∷ codes "driver" ∷ codes "dtype" ∷ codes "rank" ∷ codes "schema" ∷ codes "store_data_equal_to_fill_value" ∷ codes "transform" ∷ []

-- how many items a list has, then the sizes of its first item; an empty list ends them
abbrev pub sizes_below : (Data → Option (List ℕ)) → List Data → Option (List ℕ)
sizes_below first [] = Some (0 ∷ [])
sizes_below first (x ∷ items) = option_map (λ sizes. length (x ∷ items) ∷ sizes) (first x)

abbrev pub sizes_by : (List Data → Option (List ℕ)) → Option (List Data) → Option (List ℕ)
sizes_by below None = Some []
sizes_by below (Some items) = below items

-- the sizes of nested lists from the outside in, by the first of each; at most so many
abbrev pub nested_sizes : ℕ → Data → Option (List ℕ)
nested_sizes zero d = sizes_by (λ items. None) (list_items d)
nested_sizes (suc room) d = sizes_by (sizes_below (λ x. nested_sizes room x)) (list_items d)

-- the words of nested lists of these sizes, in C order
abbrev pub nested_words : Option Dtype → List ℕ → Data → Option (List ℕ)
nested_words dtype [] d = option_map (λ word. word ∷ []) (if_right (word_asked dtype (whole_number d)))
nested_words dtype (size ∷ sizes) d =
    option_map (λ rows. flat_map (λ row. row) rows)
    (option_and_then (λ items. if length items == size then all_of (nested_words dtype sizes) items else None) (list_items d))

-- the sizes of nested lists, at most 32
unfoldable pub sizes_in : Data → Option (List ℕ)
sizes_in d = nested_sizes 32 d

abbrev pub nested_of : List ℕ → List ℕ → Nested
nested_of sizes words = record { sizes = sizes; words = words }

abbrev pub with_words : List ℕ → Option (List ℕ) → Option Nested
with_words sizes words = option_map (nested_of sizes) words

-- nested lists of one shape: a rank of 32 at most, and at most 2^22 cells where each size 0 counts as 1
unfoldable pub numbers_in : Option Dtype → Data → Option Nested
numbers_in dtype d =
    option_and_then
    (λ sizes. if nat_le (cell_count (default_chunks sizes)) 4194304 then with_words sizes (nested_words dtype sizes d) else None)
    (sizes_in d)

abbrev pub right : {A : Type 0} → Option A → Result A Fault
right None = Err Bad
right (Some x) = Ok x

abbrev pub right_dtype : Result (Option Dtype) Fault → Option Dtype
right_dtype (Ok dtype) = dtype
right_dtype (Err fault) = None

abbrev pub given_leaf : Nested → Dtype → SpecLeaf
given_leaf numbers dtype = Given (record { dtype = dtype; shape = numbers.sizes; words = numbers.words })

-- the leaf of numbers that are given, the first fault in byte order; the numbers lie in the dtype's range where one is named
unfoldable pub given_at : List ℕ → Option (List ℕ) → Data → Result SpecLeaf SpecError
given_at path unknown d = do
  numbers ← judged_in_turn path unknown (codes "array")
      (right (option_and_then (numbers_in (right_dtype (judged_dtype (get (codes "dtype") d)))) (get (codes "array") d)))
  _ ← false_at (codes "assume_metadata") path unknown d
  _ ← false_at (codes "delete_existing") path unknown d
  dtype ← judged_in_turn path unknown (codes "dtype") (required (judged_dtype (get (codes "dtype") d)))
  Ok (given_leaf numbers dtype)
