-- Chunks that are kept beside a history.
use Rattle.std.specs.Prelude.{◌≡◌, ℕ, List, false, Some}
use Rattle.cells.specs.Elements.{word_at}
use Rattle.chunk_cache.specs.Snapshot.{SnapshotCells}
use Rattle.kv_face.specs.Store.{Contents}
use Rattle.history.specs.History.{History}
use Rattle.history.specs.Arrays.{Known, known_after, is_local}
use Rattle.history.specs.Chunks.{Chunk, IsIndexOf, key_of}
use Rattle.history.specs.Snapshots.{IsSnapshotOf, chunk_box}
use Rattle.history.specs.Touch.{generation_of}

-- cells of a chunk's dtype and shape
pub record AreCellsOf (k : Known) (snapshot : SnapshotCells) : Type 0 where
  pub dtype : snapshot.cells.dtype ≡ k.info.dtype
  pub shape : snapshot.cells.shape ≡ chunk_box k.info

-- the chunk as it is now, with its generation
abbrev pub IsCurrent : Contents → History → Known → Chunk → SnapshotCells → Type 0
IsCurrent start events k c snapshot = IsSnapshotOf start events k c snapshot.generation (word_at snapshot.cells)

-- cells that are kept under the key of a chunk of a stored array, with its generation
pub record IsKept (events : History) (entry : List ℕ × SnapshotCells) : Type 0 where
  pub chunk : Chunk
  pub array : Known
  pub known : known_after events chunk.array ≡ Some array
  pub stored : is_local array.info.home ≡ false
  pub valid : IsIndexOf array.info chunk.index
  pub named : key_of events chunk ≡ Some entry.0
  pub cells : AreCellsOf array entry.1
  pub generation : entry.1.generation ≡ generation_of events chunk

-- which are the chunk as it is now
abbrev pub IsKeptNow : Contents → History → List ℕ × SnapshotCells → Type 0
IsKeptNow start events entry = (kept : IsKept events entry) × IsCurrent start events kept.array kept.chunk entry.1
