use Rattle.std.proofs.Common.{◌≡◌, take, false}
use Rattle.transcript_laws.specs.AnswerLines.{has_lf}
use Rattle.transcript_cut.proofs.line_end.line_end.Given as goal

abbrev pub invariant-loop-spot : goal.invariant-loop-spot
invariant-loop-spot l = has_lf (take l.spot l.text) ≡ false
