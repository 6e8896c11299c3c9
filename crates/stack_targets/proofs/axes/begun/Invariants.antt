use Rattle.std.proofs.Common.{◌≤◌, ◌-◌, length}
use Rattle.stack_targets.specs.Axes.{LackIndex}
use Rattle.stack_targets.proofs.axes.begun.Given as goal

-- the layers from `high` on begin behind the index vector
abbrev pub invariant-loop-low : goal.invariant-loop-low
invariant-loop-low l = record {
  few : l.high ≤ length l.layers;
  behind : LackIndex l.high l.layers l.index;
}

abbrev pub decreases-loop-low : goal.decreases-loop-low
decreases-loop-low l = l.high - l.low
