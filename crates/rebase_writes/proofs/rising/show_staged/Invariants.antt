-- The view is what the pairs so far make of it.
use Rattle.std.proofs.Common.{◌≡◌, ℕ, None, length, replicate}
use Rattle.cells.specs.Runs.{pairs_of, first_pairs}
use Rattle.rebase_writes.specs.Runs.{pairs_shown}
use Rattle.rebase_writes.specs.Rising.{AreRising, runs_staged}
use Rattle.rebase_writes.proofs.rising.show_staged.Given as goal

abbrev pub invariant-loop-pair : goal.invariant-loop-pair
invariant-loop-pair l = (cells : ℕ) → AreRising (length l.kept) cells l.runs
    → l.out ≡ pairs_shown (pairs_of (first_pairs l.run l.pair)) (runs_staged l.runs l.kept (replicate cells None)) l.initial.out
