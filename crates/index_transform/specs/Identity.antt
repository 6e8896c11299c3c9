-- The identity over a domain.
use Rattle.std.specs.Prelude.{ℕ, ◌+◌, pos, List, [], ◌∷◌}
use Rattle.index_intervals.specs.Bounds.{Bounds}
use Rattle.index_transform.specs.declared.domain.Domain.{Domain}
use Rattle.index_transform.specs.declared.map.OutMap.{OutMap}
use Rattle.index_transform.specs.declared.map.OutMap.TheVariants.{Strided}
use Rattle.index_transform.specs.Transforms.{DomainAndMaps}

-- each output is the index along its dimension
abbrev pub identity_maps : ℕ → List Bounds → List OutMap
identity_maps dim [] = []
identity_maps dim (d ∷ dims) = Strided (pos 0) (pos 1) dim ∷ identity_maps (dim + 1) dims

abbrev pub identity_over : Domain → DomainAndMaps
identity_over domain = record { domain = domain; maps = identity_maps 0 domain.dims }
