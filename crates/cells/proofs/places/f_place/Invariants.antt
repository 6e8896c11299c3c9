use Rattle.std.proofs.Common.{◌≡◌, drop}
use Rattle.cells.specs.Places.{f_place}
use Rattle.cells.proofs.places.f_place.Given as goal

-- the place in the dimensions that are done
abbrev pub invariant-loop-k : goal.invariant-loop-k
invariant-loop-k l = l.place ≡ f_place (drop l.k l.shape) (drop l.k l.index)
