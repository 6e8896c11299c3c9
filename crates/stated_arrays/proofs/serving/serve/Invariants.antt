use Rattle.std.proofs.Common.{length}
use Rattle.stated_arrays.proofs.Walking.{IsPassing}
use Rattle.stated_arrays.proofs.serving.serve.Given as goal

abbrev pub invariant-leaves : goal.invariant-leaves
invariant-leaves l = IsPassing l.fn.arrays l.arrays l.fn.line l.line

abbrev pub decreases-leaves : goal.decreases-leaves
decreases-leaves l = length l.line.rest.items
