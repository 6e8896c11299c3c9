use Rattle.std.proofs.Common.{◌≡◌, take}
use Rattle.stack_driver.specs.Stacks.{stacked_labels}
use Rattle.stack_driver.proofs.stacking.stacked_labels.Given as goal

abbrev pub invariant-loop-k : goal.invariant-loop-k
invariant-loop-k l = l.all.items ≡ stacked_labels 0 (take l.k l.labels) l.layers
