use Rattle.history.specs.Sessions.{reader}
use Rattle.stated_history.proofs.Laws.{kept_outline}
use Rattle.transcript_fits.specs.Judges.{history_of}
use Rattle.transcript_fits.proofs.FitLaws.{fit_by}
use Rattle.transcript_fits.proofs.ReadLaws.{fetched_there, there_of, own_of}
use Rattle.transcript_fits.proofs.reading.fit_fetched.Goals as goal

pub is_fetched-requires-clause-own : goal.is_fetched-requires-clause-own
is_fetched-requires-clause-own c = fetched_there c.args.judge.now c.requires.judge c.args.line c.requires.reading.0 c.args.view.now c.args.own.now c.requires.reading.1

pub is_fetched-requires-clause-openings : goal.is_fetched-requires-clause-openings
is_fetched-requires-clause-openings c = (kept_outline c.args.judge.now.source.now c.requires.judge.source).kept

pub returns-clause-fits : goal.returns-clause-fits
returns-clause-fits c = λ t read.
    let j = c.args.judge.now in
    let line = c.args.line in
    fit_by (history_of j) _ c.in_ok-fetched.fetched c.fit_if.result c.fit_if.ensures.yes c.fit_if.ensures.no
    (c.in_ok-fetched.ensures (history_of j) line.window.upto (reader line.line t) c.requires.judge.outlined
    (there_of j c.requires.judge line t c.args.view.now c.args.own.now read) (own_of j c.requires.judge line t c.args.view.now c.args.own.now read))
