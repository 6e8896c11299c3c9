use Rattle.std.proofs.Common.{drop}
use Rattle.transaction_cells.specs.Casting.{ArePlain}
use Rattle.transaction_cells.proofs.view_cells.are_plain.Given as goal

-- the lanes so far have no cast
abbrev pub invariant-loop-lane : goal.invariant-loop-lane
invariant-loop-lane l = ArePlain (drop l.lane-index l.lanes) → ArePlain l.lanes
