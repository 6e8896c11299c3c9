use Rattle.std.proofs.Common.{◌≡◌, ◌+◌, ◌*◌, drop}
use Rattle.cells.specs.Places.{cell_count, c_place}
use Rattle.cells.proofs.places.c_place.Given as goal

-- the place so far, a whole row further, and the place in the dimensions left are the place
abbrev pub invariant-loop-k : goal.invariant-loop-k
invariant-loop-k l = l.place * cell_count (drop l.k l.shape) + c_place (drop l.k l.shape) (drop l.k l.index) ≡ c_place l.shape l.index
