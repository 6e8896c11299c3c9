use Rattle.std.specs.Prelude.{take}
use Rattle.stack_driver.specs.Conditions.{IsLast}
use Rattle.stack_driver.proofs.targeting.last_with.Given as goal

abbrev pub invariant-loop-place : goal.invariant-loop-place
invariant-loop-place l = IsLast (take l.place l.layers) l.index l.last
