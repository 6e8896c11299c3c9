use Rattle.std.proofs.Common.{◌≡◌, Err, length, rules, subst}
use Rattle.line_meanings.specs.Applying.{applied}
use Rattle.line_meanings.proofs.Laws.{applied-outputs}
use Rattle.line_acts.proofs.ChangeLaws.{stepped_told}
use Rattle.stack_driver.specs.Views.{own_transform}
use Rattle.line_acts.proofs.changing.stepped.Goals as goal

pub under-requires-clause-outputs : goal.under-requires-clause-outputs
under-requires-clause-outputs c =
    subst (λ u. length c.in-Ok.t.maps ≡ length u.maps) c.transform_of.ensures.value (applied-outputs c.transform_of.result.now c.in-Ok.t c.args.steps.now c.in-Ok.ensures.ok)

pub returns-in-Err-clause-err : goal.returns-in-Err-clause-err
returns-in-Err-clause-err c = λ next. stepped_told c.args.view c.args.steps.now next c.applied_body.result (search rules)
    (c.applied_body.ensures c.args.view (applied (own_transform c.args.view) c.args.steps.now) next (λ other. subst (λ u. applied u c.args.steps.now ≡ Err c.in-Err.e) c.transform_of.ensures.value (c.in-Err.ensures.err other)))
