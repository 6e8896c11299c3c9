use Rattle.std.proofs.Common.{◌≡◌, Some, sym}
use Rattle.std.specs.Prelude.{codes}
use Rattle.std.proofs.lemmas.Result.{IfOk-weaker}
use Rattle.serde_json.specs.Find.{get}
use Rattle.serde_json.specs.View.{view as data_in}
use Rattle.read_fits.proofs.ConflictAnswers.{without}
use Rattle.read_fits.proofs.conflicts.Conflict.told.Goals as goal

pub returns-in-Some : goal.returns-in-Some
returns-in-Some c =
    let there : get (codes "conflict") (data_in c.args.answer.now) ≡ Some (data_in c.in-Some.found.now) = sym c.in-Some.ensures in
    IfOk-weaker c.told_by.result _ _ (λ told tests number line_is. tests number (data_in c.args.answer.now) line_is there) c.told_by.ensures

pub returns-in-None : goal.returns-in-None
returns-in-None c = λ number line_is. without c.args.line c.args.text.now (data_in c.args.answer.now) (sym c.in-None.ensures)
