-- `oindex`: a dimension of its own in place of each selected one.
use Rattle.std.specs.Prelude.{ℕ, ◌==◌, ℤ, not, if◌then◌else◌, List, [], length, map, Option, Some, None, Result, Err}
use Rattle.index_intervals.specs.Bounds.{Bounds}
use Rattle.index_transform.specs.Transforms.{DomainAndMaps}
use Rattle.index_transform.specs.declared.map.OutMap.{OutMap}
use Rattle.dim_changes.specs.declared.cause.Cause.{Cause}
use Rattle.dim_changes.specs.declared.cause.Cause.TheVariants.{Count}
use Rattle.dim_changes.specs.Dims.{spot_in, dim_at, label_at}
use Rattle.dim_changes.specs.Causes.{first_cause, unless_refused, over}
use Rattle.dim_expressions.specs.Left.{all_dims, rank_of, passed}
use Rattle.dim_expressions.specs.Arrays.{array_map, array_dim, array_at, array_causes, short_map}

-- by its spot in the selection, where it is selected
abbrev pub dim_by : List Bounds → List (List ℤ) → ℕ → Option ℕ → Bounds
dim_by dims arrays dim (Some spot) = array_dim (array_at arrays spot)
dim_by dims arrays dim None = dim_at dims dim

abbrev pub label_by : List (List ℕ) → ℕ → Option ℕ → List ℕ
label_by labels dim (Some spot) = []
label_by labels dim None = label_at labels dim

abbrev pub map_by : ℕ → List (List ℤ) → ℕ → Option ℕ → OutMap
map_by rank arrays dim (Some spot) = array_map rank dim (array_at arrays spot)
map_by rank arrays dim None = passed dim

abbrev pub indexed_dim : List Bounds → List ℕ → List (List ℤ) → ℕ → Bounds
indexed_dim dims selected arrays dim = dim_by dims arrays dim (spot_in selected dim)

abbrev pub indexed_label : List (List ℕ) → List ℕ → ℕ → List ℕ
indexed_label labels selected dim = label_by labels dim (spot_in selected dim)

abbrev pub indexed_map : ℕ → List ℕ → List (List ℤ) → ℕ → OutMap
indexed_map rank selected arrays dim = map_by rank arrays dim (spot_in selected dim)

-- the map that is composed
abbrev pub built_by : ℕ → List (List ℤ) → ℕ → Option ℕ → OutMap
built_by rank arrays dim (Some spot) = short_map rank dim (array_at arrays spot)
built_by rank arrays dim None = passed dim

abbrev pub built_map : ℕ → List ℕ → List (List ℤ) → ℕ → OutMap
built_map rank selected arrays dim = built_by rank arrays dim (spot_in selected dim)

abbrev pub oindex_view : DomainAndMaps → List ℕ → List (List ℤ) → DomainAndMaps
oindex_view u selected arrays = record {
  domain = record {
    dims = map (indexed_dim u.domain.dims selected arrays) (all_dims (rank_of u));
    labels = map (indexed_label u.domain.labels selected) (all_dims (length u.domain.labels));
  };
  maps = map (indexed_map (rank_of u) selected arrays) (all_dims (rank_of u));
}

abbrev pub oindex_answer : DomainAndMaps → List ℕ → List (List ℤ) → Result DomainAndMaps Cause
oindex_answer u selected arrays =
    if not (length arrays == length selected) then Err Count
    else unless_refused (first_cause (array_causes u arrays selected)) (over u (oindex_view u selected arrays))
