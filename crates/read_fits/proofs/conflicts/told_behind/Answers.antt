use Rattle.std.proofs.Common.{sym}
use Rattle.std.proofs.lemmas.Result.{IfOk-weaker}
use Rattle.serde_json.specs.View.{view as data_in}
use Rattle.read_fits.proofs.ConflictAnswers.{no_now}
use Rattle.read_fits.proofs.conflicts.told_behind.Goals as goal

pub returns-in-Some : goal.returns-in-Some
returns-in-Some c =
    IfOk-weaker c.told_with.result _ _
    (λ told tests number d line_is there key read. tests number d (data_in c.args.found.now) line_is there key read (sym c.in-Some.ensures))
    c.told_with.ensures

pub returns-in-None : goal.returns-in-None
returns-in-None c = λ number d line_is there key read. no_now c.args.line c.args.text.now d (data_in c.args.found.now) there (sym c.in-None.ensures)
