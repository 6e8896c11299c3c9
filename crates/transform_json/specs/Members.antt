-- Members of a transform, and their items.
use Rattle.std.specs.Prelude.{ℕ, ◌==◌, Bool, false, if◌then◌else◌, List, [], ◌∷◌, length, codes, Option, Some, None, option_and_then, is_some}
use Rattle.std.specs.Option.{option_or, option_map_or}
use Rattle.std.specs.Str.{bytes_eq}
use Rattle.serde_json.specs.Data.{Data}
use Rattle.serde_json.specs.Find.{get, as_str}
use Rattle.json_forms.specs.Lists.{list_items}

-- the value, where a test is passed
abbrev pub where_so : {A : Type 0} → Bool → Option A → Option A
where_so test o = if test then o else None

-- the members that hold a list per dimension, in the order in which one is looked for
abbrev pub list_members : List (List ℕ)
list_members = codes "input_inclusive_min" ∷ codes "input_exclusive_max" ∷ codes "input_inclusive_max" ∷ codes "input_shape" ∷ codes "input_labels" ∷ []

-- the value is an object with this member
abbrev pub has : Data → List ℕ → Bool
has d name = is_some (get name d)

-- the items of a member that is a list
abbrev pub items_at : Data → List ℕ → Option (List Data)
items_at d name = option_and_then list_items (get name d)

-- the items of a member that is a list of this length
abbrev pub items_of_len : Data → List ℕ → ℕ → Option (List Data)
items_of_len d name rank = option_and_then (λ items. where_so (length items == rank) (Some items)) (items_at d name)

-- the first thing that f gives of names
abbrev pub first_some : {A : Type 0} → (List ℕ → Option A) → List (List ℕ) → Option A
first_some f [] = None
first_some f (name ∷ names) = option_or (f name) (first_some f names)

-- the value is this text
abbrev pub is_text : List ℕ → Data → Bool
is_text text d = option_map_or (λ held. bytes_eq held text) (as_str d) false
