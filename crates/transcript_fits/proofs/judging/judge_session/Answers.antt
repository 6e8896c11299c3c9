use Rattle.std.proofs.Common.{List, subst}
use Rattle.stated_history.specs.Transcript.{Told}
use Rattle.stated_history.specs.ToldNumbers.{told_of}
use Rattle.stated_history.specs.Walks.{AreToldIn}
use Rattle.transcript_fits.specs.Frames.{IsFrameOf}
use Rattle.transcript_fits.specs.Judges.{history_of}
use Rattle.transcript_fits.specs.LineFits.{IsLineFit}
use Rattle.transcript_fits.specs.Pendings.{HasAdded}
use Rattle.transcript_fits.specs.Sessions.{IsFittingAt}
use Rattle.transcript_fits.proofs.FirstLaws.{first_stands}
use Rattle.transcript_fits.proofs.JudgeLaws.{judged_all, judged_first, judged_more, judged_none}
use Rattle.transcript_fits.proofs.judging.judge_session.Goals as goal

pub loop-at-init : goal.loop-at-init
loop-at-init c = record {
  stands = first_stands c.args.judge.now c.args.session c.args.begin c.args.many c.requires.session c.first-stand.result c.first-stand.ensures.session c.first-stand.ensures.stands c.first-stand.ensures.sound c.first-stand.ensures.own c.first-stand.ensures.upto;
  may = c.requires.may;
  awaited = judged_first c.args.judge.now c.args.session c.args.begin c.args.many c.args.pending.now;
}

pub judge_line-requires-clause-frame : goal.judge_line-requires-clause-frame
judge_line-requires-clause-frame c = (
  c.args.session,
  c.args.begin,
  c.args.many,
  record { session_at = c.requires.session; begin_is = c.in_ok-frame.ensures.begin; said_is = c.in_ok-frame.ensures.said; lasts = c.in_ok-frame.ensures.lasts; ends = c.in_ok-frame.ensures.ends },
  c.loop-at-test.true,
  c.loop-at.invariant.stands,
)

pub loop-at-preserved : goal.loop-at-preserved
loop-at-preserved c =
    let j = c.args.judge.now in
    let h = history_of j in
    let at = c.loop-at.at in
    let frame : IsFrameOf j c.args.session c.args.begin c.args.many c.in_ok-frame.frame =
    record { session_at = c.requires.session; begin_is = c.in_ok-frame.ensures.begin; said_is = c.in_ok-frame.ensures.said; lasts = c.in_ok-frame.ensures.lasts; ends = c.in_ok-frame.ensures.ends } in
    let fits : (told : List Told) → AreToldIn j.source.now told → IsLineFit h (IsFittingAt h (told_of c.args.session told) at) c.in_ok-fit.fit =
    λ told of_it. c.in_ok-fit.ensures.fits c.args.session c.args.begin c.args.many told frame c.loop-at-test.true c.loop-at.invariant.stands of_it in
    record {
      stands = c.in_ok-fit.ensures.stand c.args.session c.args.begin c.args.many frame c.loop-at-test.true c.loop-at.invariant.stands (c.in_ok-add.ensures.fits c.if-not-branch.false);
      may = c.in_ok-add.ensures.may h c.loop-at.invariant.may c.in_ok-fit.ensures.asked;
      awaited = judged_more j c.args.session c.args.begin c.args.many c.args.pending.now at c.loop-at.pending c.add.new.self c.in_ok-fit.fit c.loop-at.invariant.awaited fits
          (subst (HasAdded h c.in_ok-fit.fit c.loop-at.pending c.add.new.self) c.if-not-branch.false (c.in_ok-add.ensures.added h));
    }

pub returns-then-not-branch-clause-judged : goal.returns-then-not-branch-clause-judged
returns-then-not-branch-clause-judged c =
    let j = c.args.judge.now in
    let h = history_of j in
    let frame : IsFrameOf j c.args.session c.args.begin c.args.many c.in_ok-frame.frame =
    record { session_at = c.requires.session; begin_is = c.in_ok-frame.ensures.begin; said_is = c.in_ok-frame.ensures.said; lasts = c.in_ok-frame.ensures.lasts; ends = c.in_ok-frame.ensures.ends } in
    judged_none j c.args.session c.args.begin c.args.many c.args.pending.now c.loop-at.at c.in_ok-fit.fit c.args.pending.now c.add.new.self c.loop-at-test.true c.requires.session
    (λ told of_it. c.in_ok-fit.ensures.fits c.args.session c.args.begin c.args.many told frame c.loop-at-test.true c.loop-at.invariant.stands of_it)
    (subst (HasAdded h c.in_ok-fit.fit c.loop-at.pending c.add.new.self) c.if-not-branch.true (c.in_ok-add.ensures.added h))

pub returns-then-not-branch-clause-may : goal.returns-then-not-branch-clause-may
returns-then-not-branch-clause-may c = c.in_ok-add.ensures.may (history_of c.args.judge.now) c.loop-at.invariant.may c.in_ok-fit.ensures.asked

pub returns-clause-judged : goal.returns-clause-judged
returns-clause-judged c = judged_all c.args.judge.now c.args.session c.args.begin c.args.many c.args.pending.now c.loop-at.at c.loop-at.pending c.loop-at-test.false c.requires.session c.loop-at.invariant.awaited
