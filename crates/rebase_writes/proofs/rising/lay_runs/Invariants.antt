-- The runs so far are laid over.
use Rattle.std.proofs.Common.{◌≡◌, take, replicate, length, None}
use Rattle.rebase_writes.specs.Staged.{laid_over}
use Rattle.rebase_writes.specs.Rising.{runs_staged}
use Rattle.rebase_writes.proofs.rising.lay_runs.Given as goal

abbrev pub invariant-loop-run : goal.invariant-loop-run
invariant-loop-run l = l.chunk ≡ record l.initial.chunk { words = laid_over (runs_staged (take l.run-index l.runs) l.kept (replicate (length l.initial.chunk.words) None)) l.initial.chunk.words }
