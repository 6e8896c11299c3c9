use Rattle.std.proofs.Common.{◌≡◌, ◌++◌, drop, true}
use Rattle.std.specs.List.{list_all}
use Rattle.transform_composition.specs.Tightening.{tight_dims, is_ordered, are_bounds}
use Rattle.transform_composition.proofs.tightening.tight_dims.Given as goal

-- the dimensions so far, and those still to be tightened
abbrev pub invariant-loop-k : goal.invariant-loop-k
invariant-loop-k l = (l.dims.items ++ tight_dims l.k (drop l.k l.inners) l.outers l.maps ≡ tight_dims 0 l.inners l.outers l.maps)
    × (list_all is_ordered l.inners ≡ list_all is_ordered (drop l.k l.inners))
    × (list_all are_bounds l.dims.items ≡ true)
