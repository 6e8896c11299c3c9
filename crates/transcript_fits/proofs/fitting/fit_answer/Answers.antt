use Rattle.std.proofs.Common.{◌<◌, length, sym, subst}
use Rattle.std.proofs.lemmas.Option.{slice_get-get_or}
use Rattle.transcript_fits.proofs.fitting.fit_answer.Goals as goal

pub fit_by-requires-clause-kept : goal.fit_by-requires-clause-kept
fit_by-requires-clause-kept c =
    let j = c.args.judge.now in
    let low : c.args.place < length j.acts.now = subst (λ n. c.args.place < n) (sym c.requires.judge.acts.count) c.requires.line.passing.low in
    slice_get-get_or j.acts.now c.args.place c.index-judge-place.result low
