-- Each place so far has a staged word.
use Rattle.std.proofs.Common.{◌<◌, ◌≤◌, ℕ, None, IsSome, length, replicate}
use Rattle.rebase_writes.specs.Rising.{AreRising, runs_staged}
use Rattle.rebase_writes.specs.Staged.{staged_at}
use Rattle.rebase_writes.proofs.rising.cover_range.Given as goal

abbrev pub invariant-loop-place : goal.invariant-loop-place
invariant-loop-place l = (k : ℕ) → l.fn.from ≤ k → k < l.place → (cells : ℕ) → AreRising (length l.kept) cells l.runs
    → IsSome (staged_at (runs_staged l.runs l.kept (replicate cells None)) k)
