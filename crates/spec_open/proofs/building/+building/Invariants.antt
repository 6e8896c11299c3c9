use Rattle.std.specs.List.{AllByRecursion}
use Rattle.stack_driver.specs.Conditions.{IsView}
use Rattle.spec_open.specs.Built.{built}
use Rattle.spec_open.proofs.BuiltLaws.{IsBuilt}
use Rattle.spec_open.proofs.building.+building.Given as goal

abbrev pub invariant-build_layers-loop-layer : goal.invariant-build_layers-loop-layer
invariant-build_layers-loop-layer l = record { so : IsBuilt (built l.arrays) l.layers l.layer-index l.views.items; shown : AllByRecursion IsView l.views.items }
