use Rattle.std.proofs.Common.{◌≡◌, drop}
use Rattle.transaction_cells.specs.Lanes.{size_among}
use Rattle.transaction_cells.proofs.lanes.size_of.Given as goal

-- no lane so far is of the array
abbrev pub invariant-loop-lane : goal.invariant-loop-lane
invariant-loop-lane l = size_among l.lanes l.array ≡ size_among (drop l.lane-index l.lanes) l.array
