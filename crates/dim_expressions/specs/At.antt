-- `at`: each selected dimension stays at its index.
use Rattle.std.specs.Prelude.{ℕ, ◌==◌, ℤ, pos, Bool, true, not, if◌then◌else◌, List, [], length, map, slice_index_or, Option, Result, Err}
use Rattle.std.specs.List.{enumerate_from}
use Rattle.index_intervals.specs.Bounds.{Bounds}
use Rattle.index_transform.specs.Transforms.{DomainAndMaps}
use Rattle.index_transform.specs.declared.map.OutMap.{OutMap}
use Rattle.index_transform.specs.declared.map.OutMap.TheVariants.{Constant}
use Rattle.step_forms.specs.declared.act.Numbers.{Numbers}
use Rattle.dim_changes.specs.declared.cause.Cause.{Cause}
use Rattle.dim_changes.specs.declared.cause.Cause.TheVariants.{Count}
use Rattle.dim_changes.specs.Dims.{dim_at}
use Rattle.dim_changes.specs.Causes.{first_cause, unless_refused, outside_cause, over}
use Rattle.step_forms.specs.declared.act.Numbers.TheVariants as numbers
use Rattle.dim_expressions.specs.Left.{without}

abbrev pub at_number : Numbers → ℕ → ℤ
at_number (numbers.All number) spot = number
at_number (numbers.Each list) spot = slice_index_or list spot (pos 0)

abbrev pub numbers_count : Numbers → ℕ → Bool
numbers_count (numbers.All number) count = true
numbers_count (numbers.Each list) count = length list == count

abbrev pub at_cause : Numbers → List Bounds → ℕ × ℕ → Option Cause
at_cause by dims p = outside_cause (dim_at dims p.1) (at_number by p.0)

abbrev pub at_causes : Numbers → List Bounds → List ℕ → List (Option Cause)
at_causes by dims selected = map (at_cause by dims) (enumerate_from 0 selected)

abbrev pub at_map : Numbers → ℕ → OutMap
at_map by spot = Constant (at_number by spot)

abbrev pub at_view : DomainAndMaps → List ℕ → Numbers → DomainAndMaps
at_view u selected by = without u selected [] (at_map by)

abbrev pub at_answer : DomainAndMaps → List ℕ → Numbers → Result DomainAndMaps Cause
at_answer u selected by =
    if not (numbers_count by (length selected)) then Err Count
    else unless_refused (first_cause (at_causes by u.domain.dims selected)) (over u (at_view u selected by))
