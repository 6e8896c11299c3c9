use Rattle.std.proofs.Common.{None, Option, Ok, sym, subst}
use Rattle.history.specs.Acts.{changed, named, with_changes}
use Rattle.line_meanings.specs.Changes.{changes_of}
use Rattle.line_meanings.proofs.Laws.{changes_within}
use Rattle.line_acts.specs.Refused.{IsAnswerTo}
use Rattle.line_acts.proofs.AnswerLaws.{changed_known, if_err_map, if_ok_map}
use Rattle.line_acts.proofs.changing.seen.Goals as goal
use Rattle.stack_driver.specs.declared.view.View.{View}

pub returns-in-Ok-clause-refs : goal.returns-in-Ok-clause-refs
returns-in-Ok-clause-refs c =
    let changes = changes_of None c.args.steps.now in
    if_ok_map c.changed.result c.changed.ensures.value
    (λ made is events known. changed_known events changes c.in-Ok.view made (changes_within None c.args.steps.now) (known c.args.name.now c.in-Ok.view c.in-Ok.ensures.view) is)

pub returns-in-Ok-clause-err : goal.returns-in-Ok-clause-err
returns-in-Ok-clause-err c =
    let changes = changes_of None c.args.steps.now in
    if_err_map c.changed.result c.changed.ensures.err
    (λ body told next. subst (λ (o : Option View). IsAnswerTo (named c.args.name.now o (λ w. with_changes (changed (Ok w) changes) next)) body) (sym c.in-Ok.ensures.view) (told next))

pub returns-in-Err-clause-err : goal.returns-in-Err-clause-err
returns-in-Err-clause-err c next = c.in-Err.ensures.err (λ w. with_changes (changed (Ok w) (changes_of None c.args.steps.now)) next)
