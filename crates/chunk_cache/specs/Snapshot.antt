-- A chunk at a generation, as contracts see it.
use Rattle.std.specs.Prelude.{ℕ, length}
use Rattle.cells.specs.Dense.{DenseCells}

-- the number of the last event that had touched the chunk, and the chunk's cells then
pub record SnapshotCells : Type 0 where
  pub generation : ℕ
  pub cells : DenseCells

-- how many cells the chunk has
abbrev pub size_of : SnapshotCells → ℕ
size_of snapshot = length snapshot.cells.words
