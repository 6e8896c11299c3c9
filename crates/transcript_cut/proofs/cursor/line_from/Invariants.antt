use Rattle.std.proofs.Common.{◌≡◌, ◌≤◌, ◌+◌, ◌-◌, length}
use Rattle.transcript_cut.specs.Cursors.{lines_behind}
use Rattle.transcript_cut.proofs.cursor.line_from.Given as goal

abbrev pub invariant-loop-session : goal.invariant-loop-session
invariant-loop-session l = record {
  same : lines_behind l.scripts l.fn.session l.fn.number l.fn.from ≡ lines_behind l.scripts l.session l.number l.from;
  counted : l.number ≤ l.from + 1;
}

abbrev pub decreases-loop-session : goal.decreases-loop-session
decreases-loop-session l = length l.scripts - l.session
