use Rattle.std.proofs.Common.{◌≡◌, ◌≤◌, map, take, drop, length}
use Rattle.index_transform.specs.Cells.{cells_of}
use Rattle.index_transform.specs.Values.{value_at}
use Rattle.chunk_grid.specs.Grid.{numbers}
use Rattle.chunk_grid.specs.Cuts.{AreCuts}
use Rattle.chunk_grid.proofs.cutting.put_cells.Given as goal

-- the cuts have the cells so far, and the walk the others
abbrev pub invariant-cells : goal.invariant-cells
invariant-cells l = record {
  left : drop l.view (cells_of l.t.domain.dims) ≡ l.walk.cells;
  so_far : l.view ≤ length (cells_of l.t.domain.dims);
  cuts : AreCuts l.grid.chunk (map (λ cell. numbers (value_at l.t cell)) (take l.view (cells_of l.t.domain.dims))) l.cuts;
  room : length l.chunk.items ≡ length l.grid.shape;
  rank : l.walk.rank ≡ length l.cell.items;
  here : length l.cell.items ≡ length l.t.domain.dims;
  outputs : length l.target.items ≡ length l.t.maps;
}

abbrev pub decreases-cells : goal.decreases-cells
decreases-cells l = length l.walk.cells
