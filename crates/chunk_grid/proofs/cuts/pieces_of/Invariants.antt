use Rattle.std.proofs.Common.{◌≡◌, map}
use Rattle.chunk_grid.specs.Cuts.{piece_of}
use Rattle.chunk_grid.proofs.cuts.pieces_of.Given as goal

-- the pieces of the entries so far
abbrev pub invariant-loop-chunk : goal.invariant-loop-chunk
invariant-loop-chunk l = l.pieces.items ≡ map piece_of l.yielded
