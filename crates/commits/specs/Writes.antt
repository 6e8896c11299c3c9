-- Writes by their arrays.
use Rattle.std.specs.Prelude.{◌≡◌, List, [], ◌∷◌, length, Some, if◌then◌else◌}
use Rattle.cells.specs.Places.{cell_count}
use Rattle.history.specs.History.{History}
use Rattle.history.specs.Arrays.{Known, known_after, chunk_shape}
use Rattle.history.specs.Chunks.{IsIndexOf}
use Rattle.history.specs.Commit.{Key}
use Rattle.history.specs.Counting.{is_stored}
use Rattle.chunk_plans.specs.declared.write.ChunkWrite.{ChunkWrite}

-- a write is of a chunk of an array of the history, and has a place for each cell of it
pub record IsSizedFor (events : History) (w : ChunkWrite) (k : Known) : Type 0 where
  pub known : known_after events w.array ≡ Some k
  pub valid : IsIndexOf k.info w.chunk.now
  pub size : length w.staged.now ≡ cell_count (chunk_shape k.info)

abbrev pub IsSizedWrite : History → ChunkWrite → Type 0
IsSizedWrite events w = (k : Known) × IsSizedFor events w k

-- the keys of the writes of stored arrays
abbrev pub stored_write_keys : History → List ChunkWrite → List Key
stored_write_keys events [] = []
stored_write_keys events (w ∷ writes) = if is_stored (known_after events w.array) then w.key ∷ stored_write_keys events writes else stored_write_keys events writes
