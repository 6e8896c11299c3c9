-- Dimensions that stay where others go.
use Rattle.std.specs.Prelude.{ℕ, ◌+◌, pos, List, [], ◌++◌, length, map, Option, Some, None, unwrap_or}
use Rattle.std.specs.List.{range_with_len}
use Rattle.index_intervals.specs.Bounds.{Bounds}
use Rattle.index_transform.specs.Transforms.{DomainAndMaps}
use Rattle.index_transform.specs.declared.map.OutMap.{OutMap}
use Rattle.index_transform.specs.declared.map.OutMap.TheVariants.{Strided}
use Rattle.dim_changes.specs.Dims.{spot_in, others, dim_at, label_at}

-- the numbers of dimensions of a rank
abbrev pub all_dims : ℕ → List ℕ
all_dims rank = range_with_len 0 rank

abbrev pub rank_of : DomainAndMaps → ℕ
rank_of u = length u.domain.dims

-- the old index is the new one along a dimension
abbrev pub passed : ℕ → OutMap
passed dim = Strided (pos 0) (pos 1) dim

-- where an old dimension's index comes from: a selected one as `put` says by its spot in the selection, another from its
-- spot among the others, behind so many new dimensions
abbrev pub left_by : List ℕ → ℕ → (ℕ → OutMap) → ℕ → Option ℕ → OutMap
left_by rest news put dim (Some spot) = put spot
left_by rest news put dim None = passed (news + unwrap_or (spot_in rest dim) 0)

abbrev pub left_map : List ℕ → List ℕ → ℕ → (ℕ → OutMap) → ℕ → OutMap
left_map selected rest news put dim = left_by rest news put dim (spot_in selected dim)

-- new dimensions without labels come first, then those that aren't selected
abbrev pub without : DomainAndMaps → List ℕ → List Bounds → (ℕ → OutMap) → DomainAndMaps
without u selected news put =
    let rest = others selected (rank_of u) in
    record {
      domain = record {
        dims = news ++ map (dim_at u.domain.dims) rest;
        labels = map (λ _. []) news ++ map (label_at u.domain.labels) rest;
      };
      maps = map (left_map selected rest (length news) put) (all_dims (rank_of u));
    }
