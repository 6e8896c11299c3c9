use Rattle.std.proofs.Common.{◌≡◌, take}
use Rattle.stack_driver.specs.Stacks.{column}
use Rattle.stack_driver.proofs.stacking.column.Given as goal

abbrev pub invariant-loop-layer : goal.invariant-loop-layer
invariant-loop-layer l = l.dims.items ≡ column l.k l.dim (take l.layer-index l.layers)
