use Rattle.std.proofs.Common.{◌∙◌, Ok, sym, ap, subst}
use Rattle.history.specs.Acts.{Asked, without, write_act, write_of}
use Rattle.history.specs.Viewing.{cell_fault}
use Rattle.line_meanings.specs.Numbers.{values_of}
use Rattle.serde_json.specs.View.{view}
use Rattle.line_acts.specs.Refused.{IsAnswerTo}
use Rattle.line_acts.proofs.AnswerLaws.{if_err_map, if_ok_both}
use Rattle.line_acts.proofs.writing.asked_write.Goals as goal
use Rattle.stack_driver.specs.declared.view.View.{View}

pub returns-in-Ok-clause-act : goal.returns-in-Ok-clause-act
returns-in-Ok-clause-act c =
    let v = c.in-Ok.view in
    let values = values_of (view c.args.values.now) in
    if_ok_both c.with_words.result c.with_words.ensures.view c.with_words.ensures.value
    (λ w same is t. c.in-Ok.ensures.value (write_of t values) ∙ is (λ words. without (cell_fault v) (Ok (write_act t v words))) ∙ ap (λ (u : View). without (cell_fault u) (Ok (write_act t u w.words))) (sym same))

pub returns-in-Ok-clause-err : goal.returns-in-Ok-clause-err
returns-in-Ok-clause-err c =
    let v = c.in-Ok.view in
    let values = values_of (view c.args.values.now) in
    if_err_map c.with_words.result c.with_words.ensures.err
    (λ body told t. subst (λ (a : Asked). IsAnswerTo a body) (sym (c.in-Ok.ensures.value (write_of t values))) (told (λ words. without (cell_fault v) (Ok (write_act t v words)))))

pub returns-in-Err-clause-err : goal.returns-in-Err-clause-err
returns-in-Err-clause-err c t = c.in-Err.ensures.err (write_of t (values_of (view c.args.values.now)))
