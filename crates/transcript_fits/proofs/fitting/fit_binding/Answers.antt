use Rattle.std.proofs.Common.{Ok}
use Rattle.std.proofs.lemmas.Result.{IfOk-weaker}
use Rattle.history.specs.Acts.{binds}
use Rattle.history.specs.Viewing.{viewed_body}
use Rattle.open_fits.specs.OneAnswer as one
use Rattle.transcript_fits.proofs.fitting.fit_binding.Goals as goal

pub returns-clause-fits : goal.returns-clause-fits
returns-clause-fits c =
    IfOk-weaker c.fit_one.result _ _
    (λ fit tells history t text. tells history t (Ok (binds c.args.name.now c.args.view.now)) (viewed_body c.args.name.now c.args.view.now) text one.viewed c.in_ok-body.ensures)
    c.fit_one.ensures.fits
