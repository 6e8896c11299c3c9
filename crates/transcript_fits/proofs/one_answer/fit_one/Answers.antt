use Rattle.std.proofs.Common.{ap}
use Rattle.transcript_fits.specs.LineFits.{answer_of_line, window_of_line}
use Rattle.transcript_fits.proofs.FitLaws.{fit_by}
use Rattle.transcript_fits.proofs.one_answer.fit_one.Goals as goal

pub returns-clause-fits : goal.returns-clause-fits
returns-clause-fits c = λ history t asked told text has same.
    let line = c.args.line in
    fit_by history _ c.in_ok-fits.fits c.fit_if.result c.fit_if.ensures.yes c.fit_if.ensures.no
    (c.in_ok-fits.ensures line.line (answer_of_line line) text history line.owner (window_of_line line) t asked told has (ap (λ b. record { line = line.line; body = b }) same))
