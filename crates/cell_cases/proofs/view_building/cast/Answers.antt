use Rattle.std.proofs.Common.{sym, subst}
use Rattle.stack_driver.specs.Conditions.{IsView}
use Rattle.stack_driver.specs.declared.view.View.{View}
use Rattle.stack_driver.specs.declared.view.View.TheVariants as view
use Rattle.stack_driver.proofs.Laws.{cast_view}
use Rattle.cell_cases.proofs.view_building.cast.Goals as goal

pub returns : goal.returns
returns c = subst (λ (v : View). IsView (view.Cast c.in_ok-to.to v)) (sym c.in_ok-new.ensures) (cast_view c.in_ok-to.to c.args.view c.requires)
