use Rattle.std.proofs.Common.{◌∙◌, Ok, Result, ap}
use Rattle.history.specs.Acts.{changed, with_changes, binds}
use Rattle.history.specs.Lines.{ChangeError}
use Rattle.line_meanings.specs.Changes.{changes_of}
use Rattle.line_acts.proofs.ChangeLaws.{if_err_map}
use Rattle.line_acts.proofs.JoinLaws.{if_ok_map, told_through}
use Rattle.stack_driver.specs.declared.view.View.{View}
use Rattle.line_acts.proofs.joining.joined.Goals as goal

pub returns-in-Ok-clause-value : goal.returns-in-Ok-clause-value
returns-in-Ok-clause-value c = if_ok_map _ _ c.changed.result (λ v is name t.
    c.in-Ok.ensures.value (λ view. with_changes (changed (Ok view) (changes_of c.args.transform.now c.args.steps.now)) (λ made. Ok (binds name made)))
    ∙ ap (λ (r : Result View ChangeError). with_changes r (λ made. Ok (binds name made))) is) c.changed.ensures.value

pub returns-in-Ok-clause-err : goal.returns-in-Ok-clause-err
returns-in-Ok-clause-err c = if_err_map _ _ c.changed.result (λ b told name t.
    told_through _ _ b (c.in-Ok.ensures.value (λ view. with_changes (changed (Ok view) (changes_of c.args.transform.now c.args.steps.now)) (λ made. Ok (binds name made))))
    (told (λ made. Ok (binds name made)))) c.changed.ensures.err

pub returns-in-Err-clause-err : goal.returns-in-Err-clause-err
returns-in-Err-clause-err c = λ name t. c.in-Err.ensures.err (λ view. with_changes (changed (Ok view) (changes_of c.args.transform.now c.args.steps.now)) (λ made. Ok (binds name made)))
