use Rattle.std.proofs.Common.{sym}
use Rattle.std.proofs.lemmas.Result.{IfOk-weaker}
use Rattle.serde_json.specs.View.{view as data_in}
use Rattle.read_fits.proofs.ConflictAnswers.{no_key}
use Rattle.read_fits.proofs.conflicts.told_by.Goals as goal

pub returns-in-Some : goal.returns-in-Some
returns-in-Some c =
    IfOk-weaker c.told_at.result _ _ (λ told tests number d line_is there. tests number d line_is there (sym c.in-Some.ensures)) c.told_at.ensures

pub returns-in-None : goal.returns-in-None
returns-in-None c = λ number d line_is there. no_key c.args.line c.args.text.now d (data_in c.args.found.now) there (sym c.in-None.ensures)
