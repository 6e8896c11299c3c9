use Rattle.std.proofs.Common.{◌<◌, List, refl, sym, subst}
use Rattle.std.proofs.lemmas.Result.{IfOk-weaker}
use Rattle.stated_history.specs.Standings.{standing_of}
use Rattle.stated_history.specs.ToldStandings.{act_at}
use Rattle.stated_history.specs.Transcript.{Told}
use Rattle.stated_history.proofs.Laws.{got_low, takings_long}
use Rattle.transcript_fits.specs.Stands.{IsFaced, IsLineTold}
use Rattle.transcript_fits.proofs.FacedLaws.{faced_of}
use Rattle.transcript_fits.proofs.Passing.{line_told_of, walk_at}
use Rattle.transcript_fits.proofs.fitting.fit_before.Goals as goal

pub act_before-requires-clause-walk : goal.act_before-requires-clause-walk
act_before-requires-clause-walk c = walk_at c.args.judge.now c.requires.judge c.args.stand.now c.args.line c.args.place c.requires.line.passing c.args.stand.now.walk refl

pub fit_line-requires-clause-place : goal.fit_line-requires-clause-place
fit_line-requires-clause-place c = subst (λ n. c.args.place < n) (sym (takings_long c.args.judge.now.source.now c.requires.judge.source)) c.requires.line.passing.low

pub fit_line-requires-clause-faced : goal.fit_line-requires-clause-faced
fit_line-requires-clause-faced c =
    let j = c.args.judge.now in
    let kept = got_low j.source.now.said.now c.args.place c.requires.line.passing.low in
    let one = line_told_of j c.requires.judge c.args.stand.now c.args.line c.args.place c.requires.line.passing in (
      act_at (standing_of c.args.stand.now.walk.standing) one.0,
      faced_of j c.requires.judge c.args.stand.now c.args.line c.args.place c.requires.line c.in_ok-act.act c.in_ok-act.ensures.sound kept.0 kept.1 (c.in_ok-act.ensures.act kept.0 kept.1) c.requires.judge.told one.0 one.1.told_in one.1.there,
    )

pub returns-clause-fits : goal.returns-clause-fits
returns-clause-fits c =
    let j = c.args.judge.now in
    let s = standing_of c.args.stand.now.walk.standing in
    let kept = got_low j.source.now.said.now c.args.place c.requires.line.passing.low in
    let faced : (told : List Told) (t : Told) → IsLineTold j told c.args.place t → IsFaced j c.args.line c.args.place s c.args.stand.now.own (act_at s t) c.in_ok-act.act =
    λ told t it. faced_of j c.requires.judge c.args.stand.now c.args.line c.args.place c.requires.line c.in_ok-act.act c.in_ok-act.ensures.sound kept.0 kept.1 (c.in_ok-act.ensures.act kept.0 kept.1) told t it.told_in it.there in
    IfOk-weaker c.fit_line.result _ _ (λ fit fits told t it. fits (act_at s t) (faced told t it)) c.fit_line.ensures.fits

pub returns-clause-on : goal.returns-clause-on
returns-clause-on c =
    let j = c.args.judge.now in
    let s = standing_of c.args.stand.now.walk.standing in
    let kept = got_low j.source.now.said.now c.args.place c.requires.line.passing.low in
    let faced : (told : List Told) (t : Told) → IsLineTold j told c.args.place t → IsFaced j c.args.line c.args.place s c.args.stand.now.own (act_at s t) c.in_ok-act.act =
    λ told t it. faced_of j c.requires.judge c.args.stand.now c.args.line c.args.place c.requires.line c.in_ok-act.act c.in_ok-act.ensures.sound kept.0 kept.1 (c.in_ok-act.ensures.act kept.0 kept.1) told t it.told_in it.there in
    IfOk-weaker c.fit_line.result _ _ (λ fit on told t it. on (act_at s t) (faced told t it)) c.fit_line.ensures.on
