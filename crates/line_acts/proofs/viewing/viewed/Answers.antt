use Rattle.std.proofs.Common.{Ok, Option, sym, subst}
use Rattle.history.specs.Acts.{named, changed, with_changes, binds}
use Rattle.line_meanings.specs.Changes.{changes_of}
use Rattle.line_acts.specs.Refused.{IsAnswerTo}
use Rattle.line_acts.proofs.ChangeLaws.{if_err_map}
use Rattle.stack_driver.specs.declared.view.View.{View}
use Rattle.line_acts.proofs.viewing.viewed.Goals as goal

pub returns-in-Ok-clause-err : goal.returns-in-Ok-clause-err
returns-in-Ok-clause-err c = if_err_map _ _ c.changed.result (λ b told name t.
    subst (λ (o : Option View). IsAnswerTo (named c.args.of.now o (λ view. with_changes (changed (Ok view) (changes_of c.args.transform.now c.args.steps.now)) (λ made. Ok (binds name made)))) b) (sym c.in-Ok.ensures.view)
    (told (λ made. Ok (binds name made)))) c.changed.ensures.err

pub returns-in-Err-clause-err : goal.returns-in-Err-clause-err
returns-in-Err-clause-err c = λ name t. c.in-Err.ensures.err _
