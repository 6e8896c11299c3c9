use Rattle.std.proofs.Common.{◌≡◌, take}
use Rattle.made_scripts.specs.Summary.{refused}
use Rattle.made_scripts.proofs.telling.refused.Given as goal

abbrev pub invariant-loop-log : goal.invariant-loop-log
invariant-loop-log l = l.count ≡ refused (take l.log-index l.logs)
