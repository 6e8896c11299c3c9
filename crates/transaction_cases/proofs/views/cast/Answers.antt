use Rattle.std.proofs.Common.{sym, subst}
use Rattle.history.specs.Refs.{HasKnownRefs}
use Rattle.stack_driver.specs.Conditions.{IsView}
use Rattle.stack_driver.specs.declared.view.View.TheVariants as view
use Rattle.transaction_cases.proofs.ViewLaws.{cast_view, cast_known}
use Rattle.transaction_cases.proofs.views.cast.Goals as goal

pub returns-clause-view : goal.returns-clause-view
returns-clause-view c = λ h. subst (λ b. IsView (view.Cast c.in_ok-to.to b)) (sym c.in_ok-new.ensures) (cast_view c.in_ok-to.to c.args.base h)

pub returns-clause-refs : goal.returns-clause-refs
returns-clause-refs c = λ events h. subst (λ b. HasKnownRefs events (view.Cast c.in_ok-to.to b)) (sym c.in_ok-new.ensures) (cast_known events c.in_ok-to.to c.args.base h)
