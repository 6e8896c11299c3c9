use Rattle.std.proofs.Common.{◌≡◌, ◌++◌, take, drop}
use Rattle.cells.specs.Places.{f_index}
use Rattle.cells.proofs.places.f_index.Given as goal

-- the indices that are done, and those of the rest in the dimensions left, are the index vector
abbrev pub invariant-loop-k : goal.invariant-loop-k
invariant-loop-k l = f_index l.shape l.fn.place ≡ take l.k l.out ++ f_index (drop l.k l.shape) l.rest
