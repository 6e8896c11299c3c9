use Rattle.std.proofs.Common.{◌≤◌, drop, length}
use Rattle.read_fits.specs.Rooms.{empty_lists}
use Rattle.read_fits.proofs.values.empty_lists.Given as goal

-- so it is of the sizes from here on
abbrev pub invariant-loop-at : goal.invariant-loop-at
invariant-loop-at l = record { within : l.at ≤ length l.shape; low : l.lists ≤ empty_lists (drop l.at l.shape) }

abbrev pub decreases-loop-at : goal.decreases-loop-at
decreases-loop-at l = l.at
