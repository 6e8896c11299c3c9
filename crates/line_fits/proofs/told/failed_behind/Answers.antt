use Rattle.std.proofs.Common.{◌∙◌, ap}
use Rattle.std.proofs.lemmas.Result.{IfOk-weaker}
use Rattle.transcript_cut.specs.ToldNumbers.{single}
use Rattle.line_fits.proofs.OneAnswer.{no_failure}
use Rattle.line_fits.proofs.told.failed_behind.Goals as goal

pub returns-in-None : goal.returns-in-None
returns-in-None c = λ number d told printed. no_failure c.args.line c.args.text.now d (printed ∙ ap single c.in-None.is)

pub returns-in-Some : goal.returns-in-Some
returns-in-Some c =
    IfOk-weaker c.failed_at.result _ _ (λ behind tests number d told printed. tests number d told (printed ∙ ap single c.in-Some.is)) c.failed_at.ensures
