use Rattle.std.proofs.Common.{◌≡◌, ◌-◌, map}
use Rattle.stack_targets.specs.Axes.{axis_among, axis_of, dims_of}
use Rattle.stack_targets.proofs.axes.axis_of.Given as goal

-- the layers rise along none of the dimensions before
abbrev pub invariant-loop-axis : goal.invariant-loop-axis
invariant-loop-axis l = axis_of l.rank (map dims_of l.layers) ≡ axis_among (l.rank - l.axis) l.axis (map dims_of l.layers)
