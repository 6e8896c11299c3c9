-- The pairs from `left` on are taken to their places.
use Rattle.std.proofs.Common.{◌≤◌}
use Rattle.rebase_writes.specs.Rising.{IsCopied}
use Rattle.rebase_writes.proofs.rising.spread_run.Given as goal

abbrev pub invariant-loop-left : goal.invariant-loop-left
invariant-loop-left l = record {
  few : l.left ≤ l.run.len;
  copied : IsCopied l.run l.left l.initial.marks l.initial.words l.marks l.words;
}

abbrev pub decreases-loop-left : goal.decreases-loop-left
decreases-loop-left l = l.left
