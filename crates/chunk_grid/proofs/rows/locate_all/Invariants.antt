use Rattle.std.proofs.Common.{◌≡◌, ◌≤◌, map, take, drop, length}
use Rattle.index_transform.specs.Cells.{cells_of}
use Rattle.chunk_grid.specs.Slots.{located_kept}
use Rattle.chunk_grid.proofs.rows.locate_all.Given as goal

-- the cells so far are located, and the walk has the others
abbrev pub invariant-cells : goal.invariant-cells
invariant-cells l = record {
  left : drop (length l.all.items) (cells_of l.dims) ≡ l.walk.cells;
  so_far : length l.all.items ≤ length (cells_of l.dims);
  all : l.all.items ≡ map (located_kept l.want l.t l.counts l.grid.chunk l.flags) (take (length l.all.items) (cells_of l.dims));
  rank : l.walk.rank ≡ length l.cell.items;
  here : length l.cell.items ≡ length l.t.domain.dims;
  outputs : length l.target.items ≡ length l.t.maps;
  guesses : length l.last ≡ 32;
}

abbrev pub decreases-cells : goal.decreases-cells
decreases-cells l = length l.walk.cells
