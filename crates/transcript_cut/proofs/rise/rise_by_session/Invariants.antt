use Rattle.std.proofs.Common.{drop}
use Rattle.transcript_cut.proofs.Rising.{AreRisingBy}
use Rattle.transcript_cut.proofs.rise.rise_by_session.Given as goal

abbrev pub invariant-loop-line : goal.invariant-loop-line
invariant-loop-line l = AreRisingBy l.last l.said (drop l.line-index l.said)
