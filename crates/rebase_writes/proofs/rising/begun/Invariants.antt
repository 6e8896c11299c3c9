-- Runs before `low` begin at the place or before it, those from `high` on behind it.
use Rattle.std.proofs.Common.{◌<◌, ◌≤◌, ◌-◌, ℕ, length, get_or}
use Rattle.cells.specs.declared.run.Run.{Run}
use Rattle.rebase_writes.proofs.rising.begun.Given as goal

abbrev pub invariant-loop-low : goal.invariant-loop-low
invariant-loop-low l = record {
  front : (i : ℕ) (d : Run) → i < l.low → (get_or l.runs i d).chunk ≤ l.place;
  back : (i : ℕ) (d : Run) → l.high ≤ i → i < length l.runs → l.place < (get_or l.runs i d).chunk;
  few : l.high ≤ length l.runs;
  order : l.low ≤ l.high;
}

abbrev pub decreases-loop-low : goal.decreases-loop-low
decreases-loop-low l = l.high - l.low
