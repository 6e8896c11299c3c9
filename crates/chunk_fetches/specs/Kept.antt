-- Chunks that are kept as they were.
use Rattle.std.specs.Prelude.{◌≡◌, ◌≤◌, ℕ, ◌+◌, List, [], ◌∷◌, take, length, Option, Some, None, if◌then◌else◌}
use Rattle.std.specs.Str.{bytes_eq}
use Rattle.chunk_cache.specs.Snapshot.{SnapshotCells}
use Rattle.history.specs.Arrays.{Known, known_after}
use Rattle.history.specs.Chunks.{Chunk, IsIndexOf, key_of}
use Rattle.history.specs.History.{History}
use Rattle.history.specs.Touch.{generation_of}
use Rattle.kv_face.specs.Store.{Contents}
use Rattle.shared_state.specs.Agreement.{Opening}
use Rattle.shared_state.specs.Fetches.{bounds_in}
use Rattle.shared_state.specs.Kept.{AreCellsOf, IsCurrent}
use Rattle.shared_state.specs.declared.Bounds.{Bounds}
use Rattle.transaction_cells.specs.Sites.{id_of}
use Rattle.chunk_fetches.specs.declared.kept.Kept.{Kept}

-- the chunk of an id: its array's number, and behind it the chunk's index
abbrev pub chunk_at : List ℕ → Chunk
chunk_at [] = record { array = 0; index = [] }
chunk_at (array ∷ index) = record { array = array; index = index }

-- the place of the first chunk of this id, from a place on
abbrev pub place_from : ℕ → List Kept → List ℕ → Option ℕ
place_from n [] id = None
place_from n (k ∷ kept) id = if bytes_eq id k.id then Some n else place_from (n + 1) kept id

-- a chunk as it is after these events: its dtype and shape, its generation, and its array's bounds, and where the store told its contents at
-- the start its words
pub record IsChunkThen (opening : Opening) (events : History) (c : Chunk) (snapshot : SnapshotCells) (bounds : Bounds) : Type 0 where
  pub array : Known
  pub known : known_after events c.array ≡ Some array
  pub valid : IsIndexOf array.info c.index
  pub cells : AreCellsOf array snapshot
  pub generation : snapshot.generation ≡ generation_of events c
  pub bounded : bounds ≡ bounds_in events c.array array
  pub now : (start : Contents) → opening.store.contents ≡ Some start → IsCurrent start events array c snapshot

-- a chunk that is kept is the one after its mark, under its key
pub record IsKeptIn (opening : Opening) (events : History) (k : Kept) : Type 0 where
  pub within : k.mark ≤ length events
  pub named : k.id ≡ id_of (chunk_at k.id)
  pub key : key_of (take k.mark events) (chunk_at k.id) ≡ Some k.key
  pub chunk : IsChunkThen opening (take k.mark events) (chunk_at k.id) k.snapshot k.bounds
