use Rattle.std.proofs.Common.{◌≡◌, ◌+◌, drop}
use Rattle.index_transform.specs.Walks.{lows}
use Rattle.chunk_grid.specs.Boxes.{cell_place}
use Rattle.chunk_grid.proofs.boxing.first_place.Given as goal

abbrev pub invariant-loop-d : goal.invariant-loop-d
invariant-loop-d l = l.place + cell_place (drop l.d l.dims) (lows (drop l.d l.boxed)) ≡ cell_place l.dims (lows l.boxed)
