-- Lists of indices as index arrays.
use Rattle.std.specs.Prelude.{ℕ, ◌==◌, nat_le, ℤ, pos, ◌-ℤ◌, false, not, ◌||◌, if◌then◌else◌, List, [], length, map, slice_index_or, Option, Some, None}
use Rattle.std.specs.List.{enumerate_from, list_all, list_any}
use Rattle.index_intervals.specs.Bounds.{Bounds}
use Rattle.index_intervals.specs.Members.{effective_lo, effective_hi}
use Rattle.index_transform.specs.Values.{is_effective}
use Rattle.index_transform.specs.declared.map.OutMap.{OutMap}
use Rattle.index_transform.specs.declared.map.OutMap.TheVariants.{Constant, Indexed}
use Rattle.index_transform.specs.Transforms.{DomainAndMaps}
use Rattle.transform_composition.specs.Reading.{depends_on}
use Rattle.dim_changes.specs.declared.cause.Cause.{Cause}
use Rattle.dim_changes.specs.declared.cause.Cause.TheVariants.{OutOfRange, TooLarge}
use Rattle.dim_changes.specs.Causes.{with_cause}
use Rattle.dim_changes.specs.Dims.{dim_at}
use Rattle.dim_expressions.specs.Left.{all_dims}

-- an index array of rank 1 as one of a rank that depends on one dimension
abbrev pub sizes_along : ℕ → ℕ → ℕ → List ℕ
sizes_along rank dim len = map (λ d. if d == dim then len else 1) (all_dims rank)

abbrev pub array_map : ℕ → ℕ → List ℤ → OutMap
array_map rank dim entries = Indexed (pos 0) (pos 1) (sizes_along rank dim (length entries)) entries

-- the dimension that it depends on
abbrev pub array_dim : List ℤ → Bounds
array_dim entries = record { lo = pos 0; hi = pos (length entries) -ℤ pos 1; lo_implicit = false; hi_implicit = false }

abbrev pub array_at : List (List ℤ) → ℕ → List ℤ
array_at arrays spot = slice_index_or arrays spot []

-- an entry that lies outside the effective interval
abbrev pub entries_cause : Bounds → List ℤ → Option Cause
entries_cause dim entries = if list_all (is_effective dim) entries then None else Some (OutOfRange (effective_lo dim) (effective_hi dim))

-- a list that is longer than an index array may be, on whose dimension an output depends
abbrev pub length_cause : List OutMap → ℕ → List ℤ → Option Cause
length_cause maps dim entries = if nat_le (length entries) 4194304 || not (list_any (depends_on dim) maps) then None else Some TooLarge

-- what is against the list at a spot of the selection
abbrev pub array_cause : DomainAndMaps → List (List ℤ) → ℕ × ℕ → Option Cause
array_cause u arrays p =
    with_cause (entries_cause (dim_at u.domain.dims p.1) (array_at arrays p.0)) (length_cause u.maps p.1 (array_at arrays p.0))

abbrev pub array_causes : DomainAndMaps → List (List ℤ) → List ℕ → List (Option Cause)
array_causes u arrays selected = map (array_cause u arrays) (enumerate_from 0 selected)

-- the map that is composed: of a list that is too long, which no output needs, the first index stands for all
abbrev pub short_map : ℕ → ℕ → List ℤ → OutMap
short_map rank dim entries = if nat_le (length entries) 4194304 then array_map rank dim entries else Constant (slice_index_or entries 0 (pos 0))
