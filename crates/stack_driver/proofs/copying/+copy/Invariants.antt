use Rattle.std.proofs.Common.{◌≡◌, take}
use Rattle.stack_driver.proofs.copying.+copy.Given as goal

abbrev pub invariant-copies-loop-layer : goal.invariant-copies-loop-layer
invariant-copies-loop-layer l = l.copies.items ≡ take l.layer-index l.layers
