use Rattle.std.proofs.Common.{length}
use Rattle.transcript_cut.specs.Cursors.{lines_behind}
use Rattle.transcript_cut.proofs.Cuts.{IsCutUpTo}
use Rattle.transcript_cut.proofs.cutting.keep_answers.Given as goal

abbrev pub invariant-lines : goal.invariant-lines
invariant-lines l = IsCutUpTo l.scripts l.transcript l.said.items (lines_behind l.scripts l.cursor.session l.cursor.number l.cursor.from) l.at

abbrev pub decreases-lines : goal.decreases-lines
decreases-lines l = length (lines_behind l.scripts l.cursor.session l.cursor.number l.cursor.from)
