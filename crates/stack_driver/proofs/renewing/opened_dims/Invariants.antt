use Rattle.std.proofs.Common.{◌≡◌, take}
use Rattle.stack_driver.specs.Renewed.{opened_dims}
use Rattle.stack_driver.proofs.renewing.opened_dims.Given as goal

abbrev pub invariant-loop-k : goal.invariant-loop-k
invariant-loop-k l = l.all.items ≡ opened_dims 0 (take l.k l.dims) l.maps
