use Rattle.std.proofs.Common.{◌≡◌, ◌/◌, ◌%◌, drop}
use Rattle.cells.specs.Places.{cell_count, c_index}
use Rattle.cells.proofs.places.c_index.Given as goal

-- the indices that are done are those of the place among the cells of their dimensions, and the rest counts these
abbrev pub invariant-loop-k : goal.invariant-loop-k
invariant-loop-k l =
    (l.rest ≡ l.fn.place / cell_count (drop l.k l.shape))
    × (drop l.k l.out ≡ c_index (drop l.k l.shape) (l.fn.place % cell_count (drop l.k l.shape)))
