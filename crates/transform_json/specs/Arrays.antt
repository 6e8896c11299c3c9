-- Index arrays as nested lists.
use Rattle.std.specs.Prelude.{ℕ, zero, suc, ◌==◌, nat_le, ℤ, List, [], ◌∷◌, length, replicate, Option, Some, option_map, option_and_then}
use Rattle.std.specs.List.{flat_map}
use Rattle.serde_json.specs.Data.{Data}
use Rattle.json_forms.specs.Numbers.{whole_number}
use Rattle.json_forms.specs.Lists.{list_items, all_of}
use Rattle.cells.specs.Places.{cell_count}
use Rattle.index_intervals.specs.Bounds.{Bounds, is_index}
use Rattle.index_transform.specs.Maps.{fits}
use Rattle.transform_json.specs.Members.{where_so}
use Rattle.transform_json.specs.declared.arrays.IndexArray.{IndexArray}

-- the sizes of a list: how many items it has, then those of its first item; without an item they count as 1
abbrev pub sizes_below : ℕ → (Data → Option (List ℕ)) → List Data → Option (List ℕ)
sizes_below depth first [] = Some (0 ∷ replicate depth 1)
sizes_below depth first (x ∷ items) = option_map (λ sizes. length (x ∷ items) ∷ sizes) (first x)

-- the sizes of nested lists of this depth
abbrev pub nested_sizes : ℕ → Data → Option (List ℕ)
nested_sizes zero d = Some []
nested_sizes (suc depth) d = option_and_then (λ items. sizes_below depth (λ x. nested_sizes depth x) items) (list_items d)

-- the indices of nested lists of these sizes, in C order
abbrev pub nested_entries : List ℕ → Data → Option (List ℤ)
nested_entries [] d = option_and_then (λ x. where_so (is_index x) (Some (x ∷ []))) (whole_number d)
nested_entries (size ∷ sizes) d =
    option_map (λ rows. flat_map (λ row. row) rows)
    (option_and_then (λ items. where_so (length items == size) (all_of (nested_entries sizes) items)) (list_items d))

-- an index array over dimensions: sizes that fit them, of 2^22 cells at most, and an entry for each cell
abbrev pub array_of : List Bounds → Data → Option IndexArray
array_of dims d =
    option_and_then
    (λ sizes. where_so (fits dims sizes) (where_so (nat_le (cell_count sizes) 4194304) (option_map (λ entries. record { sizes = sizes; entries = entries }) (nested_entries sizes d))))
    (nested_sizes (length dims) d)
