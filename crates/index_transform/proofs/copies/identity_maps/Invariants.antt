use Rattle.std.proofs.Common.{◌≡◌, ◌++◌, drop}
use Rattle.index_transform.specs.Identity.{identity_maps}
use Rattle.index_transform.proofs.copies.identity_maps.Given as goal

-- the maps so far, and those of the rest
abbrev pub invariant-loop-dim : goal.invariant-loop-dim
invariant-loop-dim l = l.maps.items ++ identity_maps l.dim (drop l.dim l.dims) ≡ identity_maps 0 l.dims
