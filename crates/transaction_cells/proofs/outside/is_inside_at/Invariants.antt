use Rattle.std.proofs.Common.{◌≡◌, ◌<◌, drop}
use Rattle.cells.specs.Places.{cell_count}
use Rattle.transaction_cells.specs.Outside.{is_place_inside}
use Rattle.transaction_cells.proofs.outside.is_inside_at.Given as goal

-- the dimensions that are left decide by the rest of the place, which lies in a row of theirs
abbrev pub invariant-loop-k : goal.invariant-loop-k
invariant-loop-k l = record {
  row : l.row ≡ cell_count (drop l.k l.chunk);
  below : l.rest < l.row;
  rest : is_place_inside (drop l.k l.shape) (drop l.k l.chunk) (drop l.k l.index) l.rest ≡ is_place_inside l.shape l.chunk l.index l.fn.place;
}
