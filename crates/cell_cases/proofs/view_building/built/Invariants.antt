use Rattle.std.specs.List.{AllByRecursion}
use Rattle.stack_driver.specs.Conditions.{IsView}
use Rattle.cell_cases.proofs.view_building.built.Given as goal

abbrev pub invariant-loop-act : goal.invariant-loop-act
invariant-loop-act l = AllByRecursion IsView l.made.items
