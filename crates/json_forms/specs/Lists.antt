-- Lists as data.
use Rattle.std.specs.Prelude.{ℕ, ℤ, List, [], ◌∷◌, Option, Some, option_map, option_and_then}
use Rattle.serde_json.specs.Data.{Data, array, Items, no_items, item}
use Rattle.serde_json.specs.Find.{as_array, as_number, as_u64, as_i64}
use Rattle.serde_json.specs.View.{items_of}
use Rattle.json_forms.specs.Numbers.{whole_number}

-- the list of these items
abbrev pub list_of : List Data → Data
list_of ds = array (items_of ds)

-- the items one after another
abbrev pub data_list : Items → List Data
data_list no_items = []
data_list (item d ds) = d ∷ data_list ds

-- the items of a list
abbrev pub list_items : Data → Option (List Data)
list_items d = option_map data_list (as_array d)

-- what f gives for each, where it gives something for all
abbrev pub all_of : {A B : Type 0} → (A → Option B) → List A → Option (List B)
all_of f [] = Some []
all_of f (x ∷ xs) = option_and_then (λ y. option_map (λ ys. y ∷ ys) (all_of f xs)) (f x)

-- the integers of a list of whole numbers
abbrev pub whole_list : Data → Option (List ℤ)
whole_list d = option_and_then (all_of whole_number) (list_items d)

-- the numbers of a list of whole numbers of which none is negative
abbrev pub u64_list : Data → Option (List ℕ)
u64_list d = option_and_then (all_of (λ x. option_and_then as_u64 (as_number x))) (list_items d)

-- the integers of a list of whole numbers of which none is 2^63 or more
abbrev pub i64_list : Data → Option (List ℤ)
i64_list d = option_and_then (all_of (λ x. option_and_then as_i64 (as_number x))) (list_items d)
