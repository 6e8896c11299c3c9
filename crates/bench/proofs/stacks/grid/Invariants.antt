use Rattle.std.specs.List.{AllByRecursion}
use Rattle.stack_driver.specs.Conditions.{IsView}
use Rattle.bench.proofs.stacks.grid.Given as goal

abbrev pub invariant-loop-k : goal.invariant-loop-k
invariant-loop-k l = AllByRecursion IsView l.layers.items
