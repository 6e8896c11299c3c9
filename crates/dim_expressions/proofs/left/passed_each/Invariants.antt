use Rattle.std.proofs.Common.{◌≡◌, map, take}
use Rattle.dim_expressions.specs.Left.{passed}
use Rattle.dim_expressions.proofs.left.passed_each.Given as goal

abbrev pub invariant-loop-dim : goal.invariant-loop-dim
invariant-loop-dim l = l.maps.items ≡ map passed (take l.dim-index l.dims)
