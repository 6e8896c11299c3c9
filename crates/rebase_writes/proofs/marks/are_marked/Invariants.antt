-- Each place so far is marked.
use Rattle.std.proofs.Common.{◌≡◌, ◌<◌, ◌≤◌, ◌-◌, ℕ, true}
use Rattle.rebase_writes.specs.Marks.{is_marked}
use Rattle.rebase_writes.proofs.marks.are_marked.Given as goal

abbrev pub invariant-loop-place : goal.invariant-loop-place
invariant-loop-place l = record {
  begin : l.fn.from ≤ l.place;
  each : (k : ℕ) → l.fn.from ≤ k → k < l.place → is_marked l.marks k ≡ true;
}

abbrev pub decreases-loop-place : goal.decreases-loop-place
decreases-loop-place l = l.to - l.place
