use Rattle.std.proofs.Common.{◌≡◌, map, take}
use Rattle.stack_targets.specs.Numberings.{numbering_of}
use Rattle.stack_targets.proofs.numbering.+number.Given as goal

abbrev pub invariant-number_all-loop-layer : goal.invariant-number_all-loop-layer
invariant-number_all-loop-layer l = l.all.items ≡ map numbering_of (take l.layer-index l.layers)
