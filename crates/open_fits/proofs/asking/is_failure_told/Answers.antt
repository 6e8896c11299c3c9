use Rattle.std.proofs.Common.{◌↔◌, ◌+◌, [], Some}
use Rattle.std.specs.Prelude.{IsTrue}
use Rattle.std.proofs.lemmas.Result.{IfOk-weaker}
use Rattle.serde_json.specs.Data.{Data}
use Rattle.read_fits.specs.AnswerLines.{IsAnswerText}
use Rattle.history.specs.Answers.{store_failed}
use Rattle.open_fits.specs.Built.{IsPrintedAs}
use Rattle.open_fits.proofs.asking.is_failure_told.Goals as goal

pub returns-in-Ok : goal.returns-in-Ok
returns-in-Ok c =
    let q = c.args.question.now in
    let answer = store_failed (q.moment + 1) [] (Some q.told.numbers) in
    IfOk-weaker c.is_answer.result _ (λ is. (d : Data) → IsAnswerText q.told.line q.told.text d → IsTrue is ↔ IsTrue c.args.is_free × IsPrintedAs q.told d answer)
    (λ is each d reads.
    let so = each answer c.in-Ok.ensures d reads in
    ((λ right. (c.if-not-is_free.false, so.0 right)), (λ both. so.1 both.1))) c.is_answer.ensures
