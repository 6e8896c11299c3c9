use Rattle.std.proofs.Common.{Option, drop}
use Rattle.commits.specs.declared.outside.Outside.{Outside}
use Rattle.commits.specs.Outside.{IsFirstOutside}
use Rattle.commits.proofs.outside.first_outside.Given as goal

-- what is found among the writes that are left is found among all
abbrev pub invariant-loop-write : goal.invariant-loop-write
invariant-loop-write g l = (found : Option Outside) → IsFirstOutside l.state.log.events (drop l.write-index l.writes) found → IsFirstOutside l.state.log.events l.writes found
