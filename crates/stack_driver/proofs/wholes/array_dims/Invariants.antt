use Rattle.std.proofs.Common.{◌≡◌, map, take}
use Rattle.stack_driver.specs.Arrays.{array_dim}
use Rattle.stack_driver.proofs.wholes.array_dims.Given as goal

abbrev pub invariant-loop-size : goal.invariant-loop-size
invariant-loop-size l = l.dims.items ≡ map (array_dim l.local) (take l.size-index l.shape)
