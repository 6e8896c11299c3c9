use Rattle.std.proofs.Common.{◌<◌, get_or, length, refl, sym, subst}
use Rattle.std.proofs.lemmas.Option.{slice_get-get_or}
use Rattle.stated_history.proofs.Laws.{got_low}
use Rattle.transcript_fits.proofs.KeptLines.{alone_passed}
use Rattle.transcript_fits.proofs.Passing.{does_said, walk_at}
use Rattle.transcript_fits.proofs.stand.Stand.pass.Goals as goal

pub act_before-requires-clause-walk : goal.act_before-requires-clause-walk
act_before-requires-clause-walk c = walk_at c.args.judge.now c.requires.judge c.args.self.now c.args.line c.args.place c.requires.passing c.args.self.now.walk refl

pub pass_act-requires-clause-does : goal.pass_act-requires-clause-does
pass_act-requires-clause-does c =
    let kept = got_low c.args.judge.now.source.now.said.now c.args.place c.requires.passing.low in
    does_said c.args.judge.now c.requires.judge c.args.self.now c.args.line c.args.place c.requires.passing kept.0 c.in-Ok.act kept.1 (c.in-Ok.ensures.act kept.0 kept.1)

pub returns-then-is_read_alone : goal.returns-then-is_read_alone
returns-then-is_read_alone c =
    let j = c.args.judge.now in
    let low : c.args.place < length j.acts.now = subst (λ n. c.args.place < n) (sym c.requires.judge.acts.count) c.requires.passing.low in
    let kept = get_or j.acts.now c.args.place c.index-judge-place.result in
    alone_passed j c.requires.judge c.args.self.now c.args.line c.args.place c.requires.passing kept (slice_get-get_or j.acts.now c.args.place c.index-judge-place.result low) (c.is_read_alone.ensures c.if-is_read_alone.true)
