use Rattle.std.proofs.Common.{rules, sym, subst}
use Rattle.history.specs.Refs.{HasKnownRefs}
use Rattle.stack_driver.specs.Conditions.{IsView}
use Rattle.stack_driver.specs.declared.view.View.TheVariants as view
use Rattle.transaction_cases.proofs.ViewLaws.{leaf_view, leaf_known}
use Rattle.transaction_cases.proofs.views.leaf.Goals as goal

pub returns-clause-view : goal.returns-clause-view
returns-clause-view c = subst (λ r. IsView (view.Leaf r c.in_ok-transform.transform)) (sym c.in_ok-copied.ensures) (leaf_view c.args.array.now c.in_ok-transform.transform (search rules))

pub returns-clause-refs : goal.returns-clause-refs
returns-clause-refs c = λ events known. subst (λ r. HasKnownRefs events (view.Leaf r c.in_ok-transform.transform)) (sym c.in_ok-copied.ensures) (leaf_known events c.args.array.now c.in_ok-transform.transform known)
