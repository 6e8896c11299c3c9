use Rattle.std.proofs.Common.{◌≡◌, ◌++◌, map, length}
use Rattle.index_transform.specs.Cells.{cells_of}
use Rattle.transform_composition.specs.Reading.{entry_over}
use Rattle.index_transform.proofs.Laws.{AreCells}
use Rattle.transform_composition.proofs.reading.read_entries.Given as goal

-- the entries so far, and those of the cells still to come
abbrev pub invariant-loop-cell : goal.invariant-loop-cell
invariant-loop-cell l = record {
  rank : l.walk.rank ≡ length l.cell;
  same : l.gathered.items ++ map (entry_over l.outers l.sizes l.entries l.dims l.maps) l.walk.cells ≡ map (entry_over l.outers l.sizes l.entries l.dims l.maps) (cells_of l.read);
  cells : AreCells l.read l.walk.cells;
}

abbrev pub decreases-loop-cell : goal.decreases-loop-cell
decreases-loop-cell l = length l.walk.cells
