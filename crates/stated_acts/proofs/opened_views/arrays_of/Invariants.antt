use Rattle.std.proofs.Common.{◌≡◌, Some, take}
use Rattle.stated_arrays.specs.Takings.{all_refs}
use Rattle.stated_acts.proofs.OpenedLaws.{refs}
use Rattle.stated_acts.proofs.opened_views.arrays_of.Given as goal

abbrev pub invariant-loop-place : goal.invariant-loop-place
invariant-loop-place l = all_refs (take l.place (refs l.openings.events l.leaves l.takings)) ≡ Some l.arrays.items
