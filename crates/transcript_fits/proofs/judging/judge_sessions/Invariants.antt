use Rattle.std.proofs.Common.{◌≤◌, length}
use Rattle.transcript_fits.specs.Pendings.{AreJudgedBefore}
use Rattle.transcript_fits.proofs.judging.judge_sessions.Given as goal

-- the first sessions are judged
abbrev pub invariant-loop-session : goal.invariant-loop-session
invariant-loop-session l = record { within : l.place ≤ length l.judge.source.now.said.now; judged : AreJudgedBefore l.judge l.session l.place l.pending }
