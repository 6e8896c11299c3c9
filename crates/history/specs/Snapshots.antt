-- A chunk's cells, kept beside its generation.
use Rattle.std.specs.Prelude.{◌≡◌, ℕ, List, Some, if◌then◌else◌}
use Rattle.cells.specs.Places.{IsInside}
use Rattle.kv_face.specs.Store.{Contents}
use Rattle.history.specs.declared.array.ArrayInfo.{ArrayInfo}
use Rattle.history.specs.declared.array.Home.{Home}
use Rattle.history.specs.History.{History}
use Rattle.history.specs.Arrays.{Known, known_after, is_local, chunk_shape_in}
use Rattle.history.specs.Chunks.{Chunk, IsIndexOf, cell_at}
use Rattle.history.specs.Touch.{generation_of}
use Rattle.history.specs.Content.{content_after}

-- the cells that a chunk has: those of its shape, and of a local array's one chunk those of the array's shape
abbrev pub box_in : Home → List ℕ → List ℕ
box_in home shape = if is_local home then shape else chunk_shape_in home shape

-- the cells that each chunk of an array has, by the shape with which it was opened
abbrev pub chunk_box : ArrayInfo → List ℕ
chunk_box info = box_in info.home info.shape

-- these are the words of the chunk's cells now, and this is its generation now
pub record IsSnapshotOf (start : Contents) (events : History) (k : Known) (c : Chunk) (generation : ℕ) (word : List ℕ → ℕ) : Type 0 where
  pub known : known_after events c.array ≡ Some k
  pub valid : IsIndexOf k.info c.index
  pub current : generation ≡ generation_of events c
  pub cells : (index : List ℕ) → IsInside (chunk_box k.info) index → content_after start events (cell_at k c index) ≡ Some (word index)
