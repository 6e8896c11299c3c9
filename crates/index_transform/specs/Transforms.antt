-- What a transform is.
use Rattle.std.specs.Prelude.{◌≡◌, ◌≤◌, length, ℕ, not, IsTrue, if◌then◌else◌, List, map, Option, Some, None, Result, Ok, Err}
use Rattle.std.specs.List.{list_all, position_from}
use Rattle.index_intervals.specs.Bounds.{Bounds, are_bounds}
use Rattle.index_transform.specs.Maps.{is_map, is_plain, plain_map, are_labels, has_ranks}
use Rattle.index_transform.specs.declared.domain.Domain.{Domain}
use Rattle.index_transform.specs.declared.map.OutMap.{OutMap}
use Rattle.index_transform.specs.declared.error.TransformError.{TransformError}
use Rattle.index_transform.specs.declared.error.TransformError.TheVariants.{BadRank, BadLabel, BadMap}

-- what a contract sees of a transform: its domain and one map per output
pub record DomainAndMaps : Type 0 where
  pub domain : Domain
  pub maps : List OutMap

-- one label per dimension, at most 32 of them, and the labels differ
pub record IsDomain (domain : Domain) : Type 0 where
  pub rank : length domain.dims ≤ 32
  pub same : length domain.labels ≡ length domain.dims
  pub labels : IsTrue (are_labels domain.labels)

-- the ranks are right, the labels differ, and each map goes from the dimensions by a stride other than 0
pub record KeepsRules (t : DomainAndMaps) : Type 0 where
  pub ranks : IsTrue (has_ranks t.domain t.maps)
  pub labels : IsTrue (are_labels t.domain.labels)
  pub maps : IsTrue (list_all (is_map t.domain.dims) t.maps)
  pub plain : IsTrue (list_all is_plain t.maps)

-- the same, and each interval's bounds are in order
pub record IsTransform (t : DomainAndMaps) : Type 0 where
  pub ranks : IsTrue (has_ranks t.domain t.maps)
  pub labels : IsTrue (are_labels t.domain.labels)
  pub maps : IsTrue (list_all (is_map t.domain.dims) t.maps)
  pub plain : IsTrue (list_all is_plain t.maps)
  pub bounds : IsTrue (list_all are_bounds t.domain.dims)

-- the transform on other dimensions; labels and maps stay
abbrev pub on_dims : DomainAndMaps → List Bounds → DomainAndMaps
on_dims t dims = record { domain = record { dims = dims; labels = t.domain.labels }; maps = t.maps }

-- the first output whose map doesn't go from the dimensions
abbrev pub first_bad_map : Domain → List OutMap → Option ℕ
first_bad_map domain maps = position_from (λ m. not (is_map domain.dims m)) 0 maps

abbrev pub unless_bad : Option ℕ → Domain → List OutMap → Result DomainAndMaps TransformError
unless_bad None domain maps = Ok (record { domain = domain; maps = map plain_map maps })
unless_bad (Some output) domain maps = Err (BadMap output)

-- the transform of a domain and maps, or the first reason against it
abbrev pub checked : Domain → List OutMap → Result DomainAndMaps TransformError
checked domain maps =
    if not (has_ranks domain maps) then Err BadRank
    else (if not (are_labels domain.labels) then Err BadLabel else unless_bad (first_bad_map domain maps) domain maps)
