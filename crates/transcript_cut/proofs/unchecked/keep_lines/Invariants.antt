use Rattle.std.proofs.Common.{length}
use Rattle.transcript_cut.specs.Cursors.{lines_behind}
use Rattle.transcript_cut.proofs.Checked.{IsCheckedUpTo}
use Rattle.transcript_cut.proofs.unchecked.keep_lines.Given as goal

abbrev pub invariant-lines : goal.invariant-lines
invariant-lines l = IsCheckedUpTo l.scripts l.commands.items (lines_behind l.scripts l.cursor.session l.cursor.number l.cursor.from)

abbrev pub decreases-lines : goal.decreases-lines
decreases-lines l = length (lines_behind l.scripts l.cursor.session l.cursor.number l.cursor.from)
