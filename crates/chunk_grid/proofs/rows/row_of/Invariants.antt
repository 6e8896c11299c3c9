use Rattle.std.proofs.Common.{◌≡◌, map, take}
use Rattle.chunk_grid.specs.Rows.{point}
use Rattle.chunk_grid.proofs.rows.row_of.Given as goal

-- the dimensions so far
abbrev pub invariant-loop-d : goal.invariant-loop-d
invariant-loop-d l = l.row.items ≡ map point (take l.d l.dims)
