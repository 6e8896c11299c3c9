use Rattle.std.proofs.lemmas.Result.{IfOk-weaker}
use Rattle.history.specs.Viewing.{opened_body}
use Rattle.open_fits.specs.Built.{IsToldSo}
use Rattle.open_fits.proofs.built.is_opened.Goals as goal

pub returns-in-Ok : goal.returns-in-Ok
returns-in-Ok c =
    let told = c.args.told.now in
    let answer = opened_body told.name c.args.view.now told.numbers in
    IfOk-weaker c.is_answer.result _ (IsToldSo told answer) (λ is each. each answer c.in-Ok.ensures) c.is_answer.ensures
