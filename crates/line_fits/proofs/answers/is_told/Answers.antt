use Rattle.std.proofs.lemmas.Result.{IfOk-weaker}
use Rattle.line_fits.proofs.ReadBack.{told_is}
use Rattle.line_fits.proofs.answers.is_told.Goals as goal

pub returns : goal.returns
returns c =
    IfOk-weaker c.is_rendered.result _ _ (λ is test. told_is is c.args.answer.now c.args.text.now c.look_at_answer.ensures test) c.is_rendered.ensures
