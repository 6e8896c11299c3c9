use Rattle.std.proofs.Common.{subst, arith}
use Rattle.std.proofs.lemmas.Result.{IfOk-weaker}
use Rattle.transcript_fits.specs.Judges.{history_of}
use Rattle.transcript_fits.specs.Pendings.{IsSessionJudged}
use Rattle.transcript_fits.proofs.AllJudged.{all_sessions, next_judged, none_judged, one_wrong, session_here}
use Rattle.transcript_fits.proofs.judging.judge_sessions.Goals as goal

pub loop-session-init : goal.loop-session-init
loop-session-init c = record {
  within = omega arith;
  judged = none_judged c.args.judge.now c.new-pending.result (c.new-pending.ensures.may (history_of c.args.judge.now)) (c.new-pending.ensures.holds (history_of c.args.judge.now));
}

pub judge_session-requires-clause-session : goal.judge_session-requires-clause-session
judge_session-requires-clause-session c =
    session_here c.args.judge.now c.requires.judge c.loop-session.session c.loop-session.place c.count_session-many.result c.loop-session.pending c.loop-session.invariant.judged c.count_session-many.ensures.within c.count_session-many.ensures.own c.count_session-many.ensures.next

pub loop-session-preserved : goal.loop-session-preserved
loop-session-preserved c = record {
  within = c.count_session-many.ensures.within;
  judged = next_judged c.args.judge.now c.requires.judge c.loop-session.session c.loop-session.place c.count_session-many.result c.loop-session.pending c.judge_session.new.pending c.loop-session.invariant.judged
      (session_here c.args.judge.now c.requires.judge c.loop-session.session c.loop-session.place c.count_session-many.result c.loop-session.pending c.loop-session.invariant.judged c.count_session-many.ensures.within c.count_session-many.ensures.own c.count_session-many.ensures.next)
      c.in_ok-judge_session.ensures.may
      (subst (IsSessionJudged c.args.judge.now c.loop-session.session c.loop-session.pending c.judge_session.new.pending) c.if-not-branch.false c.in_ok-judge_session.ensures.judged);
}

pub returns-then-not-branch : goal.returns-then-not-branch
returns-then-not-branch c =
    one_wrong c.args.judge.now c.requires.judge c.loop-session.session c.loop-session.pending c.judge_session.new.pending
    (subst (IsSessionJudged c.args.judge.now c.loop-session.session c.loop-session.pending c.judge_session.new.pending) c.if-not-branch.true c.in_ok-judge_session.ensures.judged)

pub returns : goal.returns
returns c =
    IfOk-weaker c.hold.result _ _
    (λ b tells told of_it. all_sessions c.args.judge.now c.requires.judge c.loop-session.session c.loop-session.place c.loop-session.pending b c.loop-session-test.false c.loop-session.invariant.judged tells told of_it) c.hold.ensures
