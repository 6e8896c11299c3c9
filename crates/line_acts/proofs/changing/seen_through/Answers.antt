use Rattle.stack_driver.specs.Changes.{moved}
use Rattle.line_acts.proofs.changing.seen_through.Goals as goal

pub returns-in-Err-clause-err : goal.returns-in-Err-clause-err
returns-in-Err-clause-err c = λ next. c.composed_body.ensures (moved c.args.view c.args.t.now) next c.in-Err.ensures.err
