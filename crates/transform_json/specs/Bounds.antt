-- Bounds, from items of lists, and the intervals between them.
use Rattle.std.specs.Prelude.{ℕ, int_le, ℤ, pos, ◌+ℤ◌, Bool, true, false, if◌then◌else◌, List, [], ◌∷◌, replicate, codes, Option, Some, None, option_map, option_and_then, Result, Ok}
use Rattle.serde_json.specs.Data.{Data}
use Rattle.json_forms.specs.Numbers.{whole_number}
use Rattle.json_forms.specs.Lists.{list_items, all_of}
use Rattle.index_intervals.specs.Bounds.{Bounds, minus_infinity, plus_infinity, is_index}
use Rattle.transform_json.specs.declared.error.JsonError.{JsonError}
use Rattle.transform_json.specs.declared.bounds.ReadBound.{ReadBound}
use Rattle.transform_json.specs.Faults.{found_at}
use Rattle.transform_json.specs.Members.{where_so, has, items_of_len, is_text}

-- a number, or the infinity of this name
abbrev pub plain_bound : List ℕ → Data → Option (Option ℤ)
plain_bound infinity d = if is_text infinity d then Some None else option_map (λ number. Some number) (whole_number d)

-- what f gives of the one item of a list, or of a value without items, and whether it stood in a list
abbrev pub alone_in : {A : Type 0} → (Data → Option A) → Data → Option (List Data) → Option (A × Bool)
alone_in f d None = option_map (λ a. (a, false)) (f d)
alone_in f d (Some []) = None
alone_in f d (Some (x ∷ [])) = option_map (λ a. (a, true)) (f x)
alone_in f d (Some (x ∷ y ∷ items)) = None

-- the same, by the items that the value has
abbrev pub alone : {A : Type 0} → (Data → Option A) → Data → Option (A × Bool)
alone f d = alone_in f d (list_items d)

-- a bound, which is implicit in a list of its own
abbrev pub bound_of : List ℕ → Data → Option ReadBound
bound_of infinity d = option_map (λ p. record { number = p.0; implicit = p.1 }) (alone (plain_bound infinity) d)

-- the bound where none is given: an implicit infinity
abbrev pub open_bound : ReadBound
open_bound = record { number = None; implicit = true }

-- the lower bound where none is given: 0 for a shape, else open
abbrev pub usual_lower : Bool → ReadBound
usual_lower shaped = if shaped then record { number = Some (pos 0); implicit = false } else open_bound

-- the bounds of a list as long as the rank
abbrev pub given_lowers : Data → ℕ → Option (List ReadBound)
given_lowers d rank = option_and_then (all_of (bound_of (codes "-inf"))) (items_of_len d (codes "input_inclusive_min") rank)

-- the lower bounds
abbrev pub lowers_of : Data → ℕ → Result (List ReadBound) JsonError
lowers_of d rank =
    if has d (codes "input_inclusive_min") then found_at (codes "input_inclusive_min") (given_lowers d rank)
    else Ok (replicate rank (usual_lower (has d (codes "input_shape"))))

-- the number where it is a finite index, or the infinity that stands where there is no number
abbrev pub index_or : Option ℤ → ℤ → Option ℤ
index_or None infinity = Some infinity
index_or (Some n) infinity = where_so (is_index n) (Some n)

-- the bounds with their flags, which cross by one at most
abbrev pub ordered : ReadBound → ReadBound → ℤ → ℤ → Option Bounds
ordered lower upper lo hi = where_so (int_le lo (hi +ℤ pos 1)) (Some (record { lo = lo; hi = hi; lo_implicit = lower.implicit; hi_implicit = upper.implicit }))

-- the interval of these bounds
abbrev pub interval_of : ReadBound → ReadBound → Option Bounds
interval_of lower upper =
    option_and_then (λ lo. option_and_then (λ hi. ordered lower upper lo hi) (index_or upper.number plus_infinity)) (index_or lower.number minus_infinity)
