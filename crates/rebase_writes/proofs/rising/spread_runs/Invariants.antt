-- The runs from `left` on are at the places of their cells.
use Rattle.std.proofs.Common.{◌≤◌, length}
use Rattle.rebase_writes.proofs.SpreadLaws.{IsSpreadFrom}
use Rattle.rebase_writes.proofs.rising.spread_runs.Given as goal

abbrev pub invariant-loop-left : goal.invariant-loop-left
invariant-loop-left l = record {
  few : l.left ≤ length l.runs;
  spread : IsSpreadFrom l.runs (length l.initial.words) l.left l.initial.words l.marks l.words;
}

abbrev pub decreases-loop-left : goal.decreases-loop-left
decreases-loop-left l = l.left
