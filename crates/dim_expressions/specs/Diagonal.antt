-- `diagonal`: the first dimension is the meet of the selected ones, each of which has its index.
use Rattle.std.specs.Prelude.{ℕ, ◌==◌, true, if◌then◌else◌, List, [], ◌∷◌, length, map, filter, is_some, unwrap_or, Result, Err}
use Rattle.index_intervals.specs.Bounds.{Bounds, minus_infinity, plus_infinity}
use Rattle.index_intervals.specs.declared.edge.Ends.{Ends}
use Rattle.index_intervals.specs.Edges.{ends_of, interval_of}
use Rattle.transform_composition.specs.Tightening.{met}
use Rattle.index_transform.specs.Transforms.{DomainAndMaps}
use Rattle.index_transform.specs.declared.map.OutMap.{OutMap}
use Rattle.dim_changes.specs.declared.cause.Cause.{Cause}
use Rattle.dim_changes.specs.declared.cause.Cause.TheVariants.{Count}
use Rattle.dim_changes.specs.Dims.{spot_in, dim_at}
use Rattle.dim_changes.specs.Causes.{over}
use Rattle.dim_expressions.specs.Left.{all_dims, rank_of, passed, without}

abbrev pub unbounded : Bounds
unbounded = record { lo = minus_infinity; hi = plus_infinity; lo_implicit = true; hi_implicit = true }

-- the ends of the meet of intervals, all taken at once; none where there is no interval
abbrev pub meet_ends : List Bounds → Ends
meet_ends dims = unwrap_or (met (map ends_of dims)) (ends_of unbounded)

-- the meet of intervals
abbrev pub meet_of : List Bounds → Bounds
meet_of dims = interval_of ((meet_ends dims).lower) ((meet_ends dims).upper)

-- the intervals that are met
abbrev pub selected_dims : DomainAndMaps → List ℕ → List Bounds
selected_dims u selected = map (dim_at u.domain.dims) (filter (λ dim. is_some (spot_in selected dim)) (all_dims (rank_of u)))

abbrev pub diagonal_map : ℕ → OutMap
diagonal_map spot = passed 0

abbrev pub diagonal_view : DomainAndMaps → List ℕ → DomainAndMaps
diagonal_view u selected = without u selected (meet_of (selected_dims u selected) ∷ []) diagonal_map

abbrev pub diagonal_answer : DomainAndMaps → List ℕ → Result DomainAndMaps Cause
diagonal_answer u selected = if length selected == 0 then Err Count else over u (diagonal_view u selected)
