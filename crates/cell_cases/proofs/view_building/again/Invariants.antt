use Rattle.std.specs.List.{AllByRecursion}
use Rattle.stack_driver.specs.Conditions.{IsView}
use Rattle.cell_cases.proofs.view_building.again.Given as goal

abbrev pub invariant-copies : goal.invariant-copies
invariant-copies l = AllByRecursion IsView l.views.items
