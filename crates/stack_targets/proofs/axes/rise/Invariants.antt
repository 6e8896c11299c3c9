use Rattle.std.proofs.Common.{◌≡◌, drop, map}
use Rattle.stack_targets.specs.Axes.{column, dims_of, rise, rise_from}
use Rattle.stack_targets.proofs.axes.rise.Given as goal

-- the layers so far rise, and those that are left have to from the last one on
abbrev pub invariant-loop-layer : goal.invariant-loop-layer
invariant-loop-layer l = rise (column l.axis (map dims_of l.layers)) ≡ rise_from l.first l.last (column l.axis (map dims_of (drop l.layer-index l.layers)))
