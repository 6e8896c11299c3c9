use Rattle.std.proofs.Common.{◌∙◌, Option, sym, ap, subst}
use Rattle.history.specs.Acts.{with_values, without}
use Rattle.history.specs.Answers.{Body}
use Rattle.history.specs.Viewing.{shape_of}
use Rattle.script_lines.specs.NestedWords.{words_of}
use Rattle.serde_json.specs.View.{view}
use Rattle.line_acts.specs.Refused.{IsAnswerTo}
use Rattle.line_acts.proofs.AnswerLaws.{if_err_map, if_ok_map}
use Rattle.line_acts.proofs.FaultLaws.{counted_sound}
use Rattle.line_acts.proofs.writing.words_for.Goals as goal
use Rattle.stack_driver.specs.Views.{look_of}

pub returns-in-Ok-clause-value : goal.returns-in-Ok-clause-value
returns-in-Ok-clause-value c =
    let v = c.args.v.now in
    let given = words_of (look_of v).dtype (shape_of v) (view c.args.values.now) in
    if_ok_map c.fitted.result c.fitted.ensures.value
    (λ words is next. ap (λ (f : Option Body). without f (with_values given next)) (counted_sound v c.in-Ok.field-0 c.in-Ok.ensures.count) ∙ ap (λ r. with_values r next) is)

pub returns-in-Ok-clause-err : goal.returns-in-Ok-clause-err
returns-in-Ok-clause-err c =
    let v = c.args.v.now in
    let given = words_of (look_of v).dtype (shape_of v) (view c.args.values.now) in
    if_err_map c.fitted.result c.fitted.ensures.err
    (λ body told next. subst (λ (f : Option Body). IsAnswerTo (without f (with_values given next)) body) (sym (counted_sound v c.in-Ok.field-0 c.in-Ok.ensures.count)) (told next))

pub returns-in-Err-clause-err : goal.returns-in-Err-clause-err
returns-in-Err-clause-err c next =
    let v = c.args.v.now in
    c.in-Err.ensures.err (with_values (words_of (look_of v).dtype (shape_of v) (view c.args.values.now)) next)
