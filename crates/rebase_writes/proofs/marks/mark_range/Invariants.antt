-- The places so far are marked, and all others are as they were.
use Rattle.std.proofs.Common.{◌≡◌, ◌<◌, ◌≤◌, ◌-◌, ℕ, true, length}
use Rattle.rebase_writes.specs.Marks.{is_marked}
use Rattle.rebase_writes.proofs.marks.mark_range.Given as goal

abbrev pub invariant-loop-place : goal.invariant-loop-place
invariant-loop-place l = record {
  begin : l.fn.from ≤ l.place;
  end : l.place ≤ l.to;
  size : length l.marks ≡ length l.initial.marks;
  here : (k : ℕ) → l.fn.from ≤ k → k < l.place → is_marked l.marks k ≡ true;
  before : (k : ℕ) → k < l.fn.from → is_marked l.marks k ≡ is_marked l.initial.marks k;
  behind : (k : ℕ) → l.place ≤ k → is_marked l.marks k ≡ is_marked l.initial.marks k;
}

abbrev pub decreases-loop-place : goal.decreases-loop-place
decreases-loop-place l = l.to - l.place
