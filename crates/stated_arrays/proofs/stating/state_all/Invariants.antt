use Rattle.std.specs.List.{AllByRecursion}
use Rattle.stated_arrays.specs.Lines.{IsSoundLine}
use Rattle.stated_arrays.specs.Served.{AreArraysOf}
use Rattle.stated_arrays.proofs.StepLaws.{IsStatedTo}
use Rattle.stated_arrays.proofs.stating.state_all.Given as goal

abbrev pub invariant-loop-spot : goal.invariant-loop-spot
invariant-loop-spot l = record {
  stated : IsStatedTo l.said l.fn.lines l.lines l.spot-index l.arrays.events.items;
  arrays : AreArraysOf l.arrays;
  sound : AllByRecursion IsSoundLine l.lines;
}
