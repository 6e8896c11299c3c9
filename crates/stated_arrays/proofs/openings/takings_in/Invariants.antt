use Rattle.std.proofs.Common.{◌≡◌, ◌++◌, take}
use Rattle.stated_arrays.specs.Served.{untaken}
use Rattle.stated_arrays.proofs.openings.takings_in.Given as goal

abbrev pub invariant-loop-leaf : goal.invariant-loop-leaf
invariant-loop-leaf l = l.numbers.items ≡ l.line.takings.items ++ untaken (take l._leaf-index l.line.rest.items)
