use Rattle.std.proofs.Common.{◌≡◌, ◌*◌, drop}
use Rattle.cells.specs.Places.{cell_count}
use Rattle.cells.proofs.places.count_cells.Given as goal

-- the count so far by that of the dimensions left is the whole
abbrev pub invariant-loop-size : goal.invariant-loop-size
invariant-loop-size l = l.count * cell_count (drop l.size-index l.shape) ≡ cell_count l.shape
