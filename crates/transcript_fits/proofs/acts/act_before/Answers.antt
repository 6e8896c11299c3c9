use Rattle.std.proofs.Common.{◌<◌, ◌∙◌, get_or, length, sym, subst}
use Rattle.std.proofs.lemmas.Option.{slice_get-get_or}
use Rattle.std.proofs.lemmas.Result.{IfOk-weaker}
use Rattle.history.proofs.Laws.{some_inj}
use Rattle.stated_history.specs.Acts.{IsActAt}
use Rattle.stated_history.specs.Spans.{line_at}
use Rattle.stated_history.specs.Standings.{standing_of}
use Rattle.stated_history.specs.Transcript.{asked_by}
use Rattle.stated_history.specs.declared.Said.{Said}
use Rattle.stated_history.proofs.Laws.{line_of_source}
use Rattle.transcript_fits.proofs.KeptActs.{act_kept}
use Rattle.transcript_fits.proofs.acts.act_before.Goals as goal

pub act_said-requires-clause-mounts : goal.act_said-requires-clause-mounts
act_said-requires-clause-mounts c = c.requires.judge.source.mounts

pub act_said-requires-clause-views : goal.act_said-requires-clause-views
act_said-requires-clause-views c = c.requires.walk.sound.views

pub act_said-requires-clause-placed : goal.act_said-requires-clause-placed
act_said-requires-clause-placed c =
    let s = c.args.judge.now.source.now in
    let d = get_or s.said.now c.args.place c.index-judge-place-in-Ok-None.result in
    (line_of_source s c.args.place d c.requires.judge.source (slice_get-get_or s.said.now c.args.place c.index-judge-place-in-Ok-None.result c.requires.walk.low)).placed

pub act_said-requires-clause-checked : goal.act_said-requires-clause-checked
act_said-requires-clause-checked c =
    let s = c.args.judge.now.source.now in
    let d = get_or s.said.now c.args.place c.index-judge-place-in-Ok-None.result in
    (line_of_source s c.args.place d c.requires.judge.source (slice_get-get_or s.said.now c.args.place c.index-judge-place-in-Ok-None.result c.requires.walk.low)).checked

pub returns-in-Ok-Some-clause-act : goal.returns-in-Ok-Some-clause-act
returns-in-Ok-Some-clause-act c =
    let j = c.args.judge.now in
    let low : c.args.place < length j.acts.now = subst (λ n. c.args.place < n) (sym c.requires.judge.acts.count) c.requires.walk.low in
    let kept = get_or j.acts.now c.args.place c.index-judge-place.result in
    (act_kept j c.requires.judge c.args.walk.now c.args.place c.requires.walk kept c.in-Ok-Some.act (slice_get-get_or j.acts.now c.args.place c.index-judge-place.result low) (c.in-Ok-Some.ensures c.in-Ok-Some.act c.in-Ok-Some.field-0-is)).0

pub returns-in-Ok-Some-clause-sound : goal.returns-in-Ok-Some-clause-sound
returns-in-Ok-Some-clause-sound c =
    let j = c.args.judge.now in
    let low : c.args.place < length j.acts.now = subst (λ n. c.args.place < n) (sym c.requires.judge.acts.count) c.requires.walk.low in
    let kept = get_or j.acts.now c.args.place c.index-judge-place.result in
    (act_kept j c.requires.judge c.args.walk.now c.args.place c.requires.walk kept c.in-Ok-Some.act (slice_get-get_or j.acts.now c.args.place c.index-judge-place.result low) (c.in-Ok-Some.ensures c.in-Ok-Some.act c.in-Ok-Some.field-0-is)).1

pub returns-in-Ok-None-clause-act : goal.returns-in-Ok-None-clause-act
returns-in-Ok-None-clause-act c =
    let s = c.args.judge.now.source.now in
    let d = get_or s.said.now c.args.place c.index-judge-place-in-Ok-None.result in
    let at = slice_get-get_or s.said.now c.args.place c.index-judge-place-in-Ok-None.result c.requires.walk.low in
    IfOk-weaker c.act_said.result _ _
    (λ act does e there. subst (λ (x : Said). IsActAt (standing_of c.args.walk.now.standing) (asked_by (line_at s.scripts.now x.line)) act) (some_inj d e (sym at ∙ there)) does) c.act_said.ensures.act
