use Rattle.std.proofs.Common.{◌≡◌, length}
use Rattle.cells.specs.declared.dtype.Dtype.TheVariants.{U8}
use Rattle.rebase_writes.specs.Staged.{AreWords}
use Rattle.state_cases.proofs.laying.stage_all.Given as goal

abbrev pub invariant-loop-place : goal.invariant-loop-place
invariant-loop-place l = (length l.staged ≡ l.count) × AreWords U8 l.staged
