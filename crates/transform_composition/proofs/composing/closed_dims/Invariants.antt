use Rattle.std.proofs.Common.{◌≡◌, ◌++◌, take, drop}
use Rattle.transform_composition.specs.Composing.{closed_dims}
use Rattle.transform_composition.proofs.composing.closed_dims.Given as goal

-- the dimensions so far are explicit where they have to be, the others as they were
abbrev pub invariant-loop-k : goal.invariant-loop-k
invariant-loop-k l = l.dim-items ≡ take l.k (closed_dims 0 l.fn.dims.items l.maps) ++ drop l.k l.fn.dims.items
