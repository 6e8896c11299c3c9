-- `vindex`: one first dimension for all selected ones.
use Rattle.std.specs.Prelude.{ℕ, ◌+◌, ◌==◌, ℤ, Bool, not, ◌&&◌, if◌then◌else◌, List, [], ◌∷◌, length, Result, Err}
use Rattle.std.specs.List.{list_all}
use Rattle.index_transform.specs.Transforms.{DomainAndMaps}
use Rattle.index_transform.specs.declared.map.OutMap.{OutMap}
use Rattle.dim_changes.specs.declared.cause.Cause.{Cause}
use Rattle.dim_changes.specs.declared.cause.Cause.TheVariants.{Count}
use Rattle.dim_changes.specs.Dims.{others}
use Rattle.dim_changes.specs.Causes.{first_cause, unless_refused, over}
use Rattle.dim_expressions.specs.Left.{rank_of, without}
use Rattle.dim_expressions.specs.Arrays.{array_map, array_dim, array_at, array_causes, short_map}

abbrev pub vindex_map : ℕ → List (List ℤ) → ℕ → OutMap
vindex_map left arrays spot = array_map (1 + left) 0 (array_at arrays spot)

-- the map that is composed
abbrev pub built_map : ℕ → List (List ℤ) → ℕ → OutMap
built_map left arrays spot = short_map (1 + left) 0 (array_at arrays spot)

abbrev pub vindex_view : DomainAndMaps → List ℕ → List (List ℤ) → DomainAndMaps
vindex_view u selected arrays =
    without u selected (array_dim (array_at arrays 0) ∷ []) (vindex_map (length (others selected (rank_of u))) arrays)

-- as many lists as selected dimensions, at least one, all of one length
abbrev pub are_joined : List (List ℤ) → ℕ → Bool
are_joined arrays count =
    not (count == 0) && (length arrays == count) && list_all (λ entries. length entries == length (array_at arrays 0)) arrays

abbrev pub vindex_answer : DomainAndMaps → List ℕ → List (List ℤ) → Result DomainAndMaps Cause
vindex_answer u selected arrays =
    if not (are_joined arrays (length selected)) then Err Count
    else unless_refused (first_cause (array_causes u arrays selected)) (over u (vindex_view u selected arrays))
