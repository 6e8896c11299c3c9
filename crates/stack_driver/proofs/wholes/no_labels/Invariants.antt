use Rattle.std.proofs.Common.{◌≡◌, [], map, take}
use Rattle.stack_driver.proofs.wholes.no_labels.Given as goal

abbrev pub invariant-loop-size : goal.invariant-loop-size
invariant-loop-size l = l.labels.items ≡ map (λ size. []) (take l._size-index l.shape)
