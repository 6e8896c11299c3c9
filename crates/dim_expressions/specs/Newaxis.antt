-- `newaxis`: the selection are positions of the result; the old dimensions stand at the others.
use Rattle.std.specs.Prelude.{ℕ, ◌+◌, nat_le, pos, true, if◌then◌else◌, List, [], length, map, slice_index_or, Option, Some, None, Result, Err}
use Rattle.index_intervals.specs.Bounds.{Bounds}
use Rattle.index_transform.specs.Transforms.{DomainAndMaps}
use Rattle.dim_changes.specs.declared.cause.Cause.{Cause}
use Rattle.dim_changes.specs.declared.cause.Cause.TheVariants.{Rank}
use Rattle.dim_changes.specs.Dims.{spot_in, others, dim_at, label_at}
use Rattle.dim_changes.specs.Causes.{over}
use Rattle.dim_expressions.specs.Left.{all_dims, rank_of, passed}

-- one cell, both bounds implicit
abbrev pub new_axis : Bounds
new_axis = record { lo = pos 0; hi = pos 0; lo_implicit = true; hi_implicit = true }

-- what stands at a position of the result, by its spot among those of the old dimensions
abbrev pub axis_by : List Bounds → Option ℕ → Bounds
axis_by dims (Some dim) = dim_at dims dim
axis_by dims None = new_axis

abbrev pub axis_label_by : List (List ℕ) → Option ℕ → List ℕ
axis_label_by labels (Some dim) = label_at labels dim
axis_label_by labels None = []

abbrev pub newaxis_view : DomainAndMaps → List ℕ → DomainAndMaps
newaxis_view u added =
    let rank = rank_of u + length added in
    let olds = others added rank in
    record {
      domain = record {
        dims = map (λ position. axis_by u.domain.dims (spot_in olds position)) (all_dims rank);
        labels = map (λ position. axis_label_by u.domain.labels (spot_in olds position)) (all_dims rank);
      };
      maps = map (λ dim. passed (slice_index_or olds dim 0)) (all_dims (rank_of u));
    }

abbrev pub newaxis_answer : DomainAndMaps → List ℕ → Result DomainAndMaps Cause
newaxis_answer u added = if nat_le (rank_of u + length added) 32 then over u (newaxis_view u added) else Err Rank
