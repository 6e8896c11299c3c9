-- Intervals, by lower bounds and the member that gives the upper ones.
use Rattle.std.specs.Prelude.{ℕ, ◌-◌, ◌^◌, nat_le, ℤ, pos, ◌+ℤ◌, ◌-ℤ◌, if◌then◌else◌, List, length, codes, Option, Some, None, option_map, option_and_then, Result, Err}
use Rattle.std.specs.List.{zip}
use Rattle.std.specs.Option.{option_map_or}
use Rattle.serde_json.specs.Data.{Data}
use Rattle.serde_json.specs.Find.{as_number, as_u64}
use Rattle.json_forms.specs.Lists.{all_of}
use Rattle.index_intervals.specs.Bounds.{Bounds, is_index}
use Rattle.transform_json.specs.declared.error.JsonError.{JsonError}
use Rattle.transform_json.specs.declared.error.JsonError.TheVariants.{BadMember}
use Rattle.transform_json.specs.declared.bounds.ReadBound.{ReadBound}
use Rattle.transform_json.specs.declared.uppers.Upper.{Upper}
use Rattle.transform_json.specs.declared.uppers.Upper.TheVariants.{Exclusive, Inclusive, Shape}
use Rattle.transform_json.specs.Bounds.{alone, bound_of, open_bound, interval_of}
use Rattle.transform_json.specs.Faults.{found_at}
use Rattle.transform_json.specs.Members.{where_so, has, items_of_len}

-- a number as an inclusive upper bound, where it is exclusive
abbrev pub number_below : ℤ → Option ℤ
number_below n = where_so (is_index (n -ℤ pos 1)) (Some (n -ℤ pos 1))

-- an infinity stays, and a number may become another
abbrev pub with_number_of : (ℤ → Option ℤ) → ReadBound → Option ReadBound
with_number_of f b = option_map_or (λ n. option_map (λ m. record { number = Some m; implicit = b.implicit }) (f n)) b.number (Some b)

-- a size, 0 to 2^62 - 2
abbrev pub size_number : Data → Option ℕ
size_number d = option_and_then (λ n. where_so (nat_le n (2 ^ 62 - 2)) (Some n)) (option_and_then as_u64 (as_number d))

-- the inclusive upper bound of a size over a lower bound, which has to be a finite index
abbrev pub end_of : Option ℤ → ℕ → Option ℤ
end_of None size = None
end_of (Some lo) size = where_so (is_index lo) (Some (lo +ℤ pos size -ℤ pos 1))

-- the upper bound over a lower one, as a member gives it
abbrev pub upper_of : Upper → ReadBound → Data → Option ReadBound
upper_of Exclusive lower d = option_and_then (with_number_of number_below) (bound_of (codes "+inf") d)
upper_of Inclusive lower d = bound_of (codes "+inf") d
upper_of Shape lower d = option_and_then (λ p. option_map (λ hi. record { number = Some hi; implicit = p.1 }) (end_of lower.number p.0)) (alone size_number d)

-- the name of the member
abbrev pub upper_name : Upper → List ℕ
upper_name Exclusive = codes "input_exclusive_max"
upper_name Inclusive = codes "input_inclusive_max"
upper_name Shape = codes "input_shape"

-- the interval of a lower bound and an item that gives the upper one
abbrev pub dim_to : Upper → ReadBound × Data → Option Bounds
dim_to upper p = option_and_then (interval_of p.0) (upper_of upper p.0 p.1)

-- the intervals over lower bounds, by the upper bounds that items give
abbrev pub dims_to : Upper → List ReadBound → List Data → Option (List Bounds)
dims_to upper lowers items = all_of (dim_to upper) (zip lowers items)

-- the same by a member, which is at fault where it gives none
abbrev pub dims_at : Upper → Data → List ReadBound → Result (List Bounds) JsonError
dims_at upper d lowers = found_at (upper_name upper) (option_and_then (dims_to upper lowers) (items_of_len d (upper_name upper) (length lowers)))

-- the intervals without upper bounds
abbrev pub open_dims : List ReadBound → Option (List Bounds)
open_dims lowers = all_of (λ lower. interval_of lower open_bound) lowers

-- the intervals by lower bounds and the one member that gives upper ones; a second such member, in byte order, is at fault
abbrev pub dims_of : Data → List ReadBound → Result (List Bounds) JsonError
dims_of d lowers =
    if has d (upper_name Exclusive) then (
    if has d (upper_name Inclusive) then Err (BadMember (upper_name Inclusive))
    else (if has d (upper_name Shape) then Err (BadMember (upper_name Shape)) else dims_at Exclusive d lowers))
    else (if has d (upper_name Inclusive) then (
    if has d (upper_name Shape) then Err (BadMember (upper_name Shape)) else dims_at Inclusive d lowers)
    else (if has d (upper_name Shape) then dims_at Shape d lowers
    else found_at (codes "input_inclusive_min") (open_dims lowers)))
