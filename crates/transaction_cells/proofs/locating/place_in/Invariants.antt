use Rattle.std.proofs.Common.{◌≡◌, ◌+◌, ◌*◌, drop}
use Rattle.cells.specs.Places.{cell_count, c_place}
use Rattle.history.specs.Chunks.{within_chunk}
use Rattle.transaction_cells.proofs.locating.place_in.Given as goal

-- the place so far, a whole row further, and the place in the dimensions left are the place
abbrev pub invariant-loop-k : goal.invariant-loop-k
invariant-loop-k l =
    l.place * cell_count (drop l.k l.chunk) + c_place (drop l.k l.chunk) (drop l.k (within_chunk l.chunk l.index))
    ≡ c_place l.chunk (within_chunk l.chunk l.index)
