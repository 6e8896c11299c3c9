use Rattle.std.proofs.Common.{take}
use Rattle.transcript_fits.specs.Judges.{history_of}
use Rattle.transcript_fits.proofs.FitLaws.{fit_by}
use Rattle.transcript_fits.proofs.Judged.{front_of}
use Rattle.transcript_fits.proofs.changing.fit_failed_commit.Goals as goal

pub commit_may_fail-requires : goal.commit_may_fail-requires
commit_may_fail-requires c =
    let j = c.args.judge.now in
    (history_of j, take c.args.number (history_of j), front_of j c.requires.judge c.args.number c.count_at-opened.result c.requires.number c.count_at-opened.ensures, c.requires.ops)

pub returns-clause-fits : goal.returns-clause-fits
returns-clause-fits c = λ t same.
    let j = c.args.judge.now in
    let front = front_of j c.requires.judge c.args.number c.count_at-opened.result c.requires.number c.count_at-opened.ensures in
    fit_by (history_of j) _ c.in_ok-may.may c.fit_if.result c.fit_if.ensures.yes c.fit_if.ensures.no
    (c.in_ok-may.ensures (history_of j) (take c.args.number (history_of j)) t front c.requires.judge.stored c.requires.ops same)
