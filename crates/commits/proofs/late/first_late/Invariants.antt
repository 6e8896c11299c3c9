use Rattle.std.proofs.Common.{Option, drop}
use Rattle.commits.specs.declared.late.Late.{Late}
use Rattle.commits.specs.Late.{IsFirstLate}
use Rattle.commits.proofs.late.first_late.Given as goal

-- what is found among the marks that are left is found among all
abbrev pub invariant-loop-mark : goal.invariant-loop-mark
invariant-loop-mark g l = (found : Option Late) → IsFirstLate l.state.log (drop l.mark-index l.marks) found → IsFirstLate l.state.log l.marks found
