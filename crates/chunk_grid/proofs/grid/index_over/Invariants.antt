use Rattle.std.proofs.Common.{◌≡◌, take}
use Rattle.chunk_grid.specs.Grid.{numbers, chunk_index}
use Rattle.chunk_grid.proofs.grid.index_over.Given as goal

-- the numbers so far are those of the chunk index
abbrev pub invariant-loop-k : goal.invariant-loop-k
invariant-loop-k l = take l.k l.out ≡ take l.k (chunk_index l.chunk (numbers l.index))
