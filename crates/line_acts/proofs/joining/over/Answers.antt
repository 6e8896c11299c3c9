use Rattle.layer_join.specs.Joins.{join_answer}
use Rattle.line_meanings.specs.Joins.{form_of}
use Rattle.line_acts.proofs.joining.over.Goals as goal

pub returns-in-Err-clause-err : goal.returns-in-Err-clause-err
returns-in-Err-clause-err c = λ next. c.joined_body.ensures (join_answer (form_of c.args.form) c.args.views.items) next c.in-Err.ensures.err
