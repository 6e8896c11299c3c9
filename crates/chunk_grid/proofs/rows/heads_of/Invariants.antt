use Rattle.std.proofs.Common.{◌≡◌, ◌++◌, map, take, drop}
use Rattle.chunk_grid.specs.Rows.{point}
use Rattle.chunk_grid.proofs.rows.heads_of.Given as goal

-- the dimensions so far
abbrev pub invariant-loop-d : goal.invariant-loop-d
invariant-loop-d l = l.heads.items ≡ take l.k l.dims ++ map point (drop l.k (take l.d l.dims))
