use Rattle.std.proofs.lemmas.Result.{IfOk-weaker}
use Rattle.line_fits.proofs.OneAnswer.{answered_by_one}
use Rattle.line_fits.proofs.told.is_answered.Goals as goal

pub returns : goal.returns
returns c =
    IfOk-weaker c.is_told.result _ _
    (λ is tests number d told h owner w t asked body one same. answered_by_one is c.args.answer.now c.args.text.now d (tests number d told) h owner w t asked body one same)
    c.is_told.ensures
