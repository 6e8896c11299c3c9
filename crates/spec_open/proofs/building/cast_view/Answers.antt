use Rattle.std.proofs.Common.{sym, subst}
use Rattle.stack_driver.specs.Conditions.{IsView}
use Rattle.stack_driver.proofs.Laws.{cast_view}
use Rattle.spec_open.proofs.building.cast_view.Goals as goal

pub through-requires : goal.through-requires
through-requires c = cast_view c.args.to c.in_ok-new.field-0 (subst IsView (sym c.in_ok-new.ensures) c.requires)
