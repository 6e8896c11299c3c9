use Rattle.std.proofs.Common.{◌≡◌, map}
use Rattle.std.specs.List.{range_with_len}
use Rattle.dim_expressions.specs.Transpose.{carried}
use Rattle.dim_expressions.proofs.transpose.carried_each.Given as goal

abbrev pub invariant-loop-x : goal.invariant-loop-x
invariant-loop-x l = l.numbers.items ≡ map (carried l.rank l.from l.to) (range_with_len 0 l.x)
