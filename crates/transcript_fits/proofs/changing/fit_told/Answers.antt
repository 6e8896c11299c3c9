use Rattle.transcript_fits.specs.Judges.{history_of}
use Rattle.transcript_fits.proofs.FitLaws.{fit_by}
use Rattle.transcript_fits.proofs.Judged.{tables_of}
use Rattle.transcript_fits.proofs.changing.fit_told.Goals as goal

pub fits-requires : goal.fits-requires
fits-requires c =
    let j = c.args.judge.now in
    (history_of j, c.requires.own.0, c.requires.own.1, tables_of j c.requires.judge, c.requires.own.3, c.requires.own.2)

pub returns-clause-fits : goal.returns-clause-fits
returns-clause-fits c = λ upto t ops own mode.
    let j = c.args.judge.now in
    fit_by (history_of j) _ c.in_ok-fits.fits c.fit_if.result c.fit_if.ensures.yes c.fit_if.ensures.no (c.in_ok-fits.ensures (history_of j) upto t (tables_of j c.requires.judge) own ops mode)
