use Rattle.std.proofs.Common.{◌≡◌, map, take}
use Rattle.stack_targets.specs.Numberings.{firsts_from, size_of, total_from}
use Rattle.stack_targets.proofs.numbering.firsts_of.Given as goal

-- the layers so far
abbrev pub invariant-loop-layer : goal.invariant-loop-layer
invariant-loop-layer l = record {
  leaves : l.leaves ≡ total_from 0 (map size_of (take l.layer-index l.layers));
  firsts : l.firsts.items ≡ firsts_from 0 (map size_of (take l.layer-index l.layers));
}
