use Rattle.std.proofs.Common.{◌≡◌, length}
use Rattle.rebase_writes.specs.Staged.{AreWords}
use Rattle.state_cases.proofs.planning.stage_all.Given as goal

abbrev pub invariant-loop-place : goal.invariant-loop-place
invariant-loop-place l = (length l.staged ≡ l.count) × AreWords l.dtype l.staged
