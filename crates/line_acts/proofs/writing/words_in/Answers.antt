use Rattle.std.proofs.Common.{inr, Err, refl, ap}
use Rattle.history.specs.Acts.{with_values}
use Rattle.history.specs.Answers as body
use Rattle.line_acts.proofs.writing.words_in.Goals as goal

pub returns-in-Err-Bad-clause-err : goal.returns-in-Err-Bad-clause-err
returns-in-Err-Bad-clause-err c next =
    let arm = c.in-Err-Bad in
    inr (body.bad_values arm.path, ap (λ r. with_values r next) (arm.ensures.bad arm.path (ap Err arm.field-0-is)), refl)
