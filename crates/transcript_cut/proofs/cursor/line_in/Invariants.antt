use Rattle.std.proofs.Common.{◌≡◌, ◌≤◌, ◌+◌, ◌-◌, length, drop}
use Rattle.script_lines.specs.Script.{lines_of}
use Rattle.transcript_laws.specs.Transcript.{lines_from}
use Rattle.transcript_cut.proofs.cursor.line_in.Given as goal

abbrev pub invariant-loop-from : goal.invariant-loop-from
invariant-loop-from l = record {
  same : lines_from l.session l.fn.number (lines_of (drop l.fn.from l.script)) ≡ lines_from l.session l.number (lines_of (drop l.from l.script));
  counted : l.number ≤ l.from + 1;
}

abbrev pub decreases-loop-from : goal.decreases-loop-from
decreases-loop-from l = length l.script - l.from
