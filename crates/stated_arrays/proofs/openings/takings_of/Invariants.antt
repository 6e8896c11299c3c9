use Rattle.std.proofs.Common.{◌≡◌, map, take}
use Rattle.stated_arrays.specs.Stating.{all_takings}
use Rattle.stated_arrays.proofs.openings.takings_of.Given as goal

abbrev pub invariant-loop-line : goal.invariant-loop-line
invariant-loop-line l = l.all.items ≡ map all_takings (take l.line-index l.lines)
