use Rattle.std.proofs.Common.{◌≡◌, take}
use Rattle.stack_driver.specs.Stacks.{stacked_dims}
use Rattle.stack_driver.proofs.stacking.stacked_dims.Given as goal

abbrev pub invariant-loop-k : goal.invariant-loop-k
invariant-loop-k l = l.all.items ≡ stacked_dims 0 (take l.k l.dims) l.layers
