use Rattle.transcript_fits.proofs.JudgeLaws.{AreJudgedUpTo}
use Rattle.transcript_fits.proofs.judging.judge_session.Given as goal

-- the first lines are judged
abbrev pub invariant-loop-at : goal.invariant-loop-at
invariant-loop-at l = AreJudgedUpTo l.judge l.session l.begin l.many l.initial.pending l.at l.stand l.pending
