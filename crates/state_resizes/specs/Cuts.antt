-- What a new shape leaves of the chunks that it cuts, and the changes of the store.
use Rattle.std.specs.Prelude.{◌≡◌, ◌<◌, ◌+◌, slice_index_or, ℕ, zero, suc, List, [], ◌∷◌, map, true, false, Option, Some, None}
use Rattle.cells.specs.Dense.{DenseCells}
use Rattle.cells.specs.Elements.{word_at}
use Rattle.cells.specs.Numbers.{IsWord}
use Rattle.kv_face.specs.Store.{Contents, keys_of}
use Rattle.kv_face.specs.declared.change.Change.{Change}
use Rattle.chunk_forms.specs.declared.form.Form.{Form}
use Rattle.chunk_forms.specs.Metadata.{metadata_text, with_shape, shape_of, chunk_shape_of, dtype_of, fill_of}
use Rattle.chunk_forms.specs.Metadata as meta
use Rattle.history.specs.Arrays.{Known, known_after, chunk_shape, form_of}
use Rattle.history.specs.Chunks.{Chunk, chunk_key, metadata_key}
use Rattle.history.specs.History.{History}
use Rattle.history.specs.Legal.{MayTake}
use Rattle.history.specs.ReadRows.{mount_of}
use Rattle.history.specs.Resizes.{cut_chunks, is_cut, reaches_into}
use Rattle.history.specs.Snapshots.{IsSnapshotOf}
use Rattle.chunk_plans.specs.Agreement.{Opening, Agrees, IsState}
use Rattle.chunk_plans.specs.Laid.{IsChunkOf}
use Rattle.chunk_plans.specs.Log.{Log}
use Rattle.chunk_plans.specs.Looks.{IsLook}
use Rattle.chunk_plans.specs.Seen.{StoreSeen}
use Rattle.chunk_plans.specs.declared.NewShape.{NewShape}
use Rattle.chunk_plans.specs.Left.{IsLeft}
use Rattle.chunk_plans.specs.declared.Look.{Look}
use Rattle.state_resizes.specs.declared.keys.Asked.{Asked}

-- these are the chunks that a new shape of a stored array cuts, in lexical order, and few enough
pub record AreCut (events : History) (a : ℕ) (shape : List ℕ) (chunks : List (List ℕ)) : Type 0 where
  pub array : Known
  pub known : known_after events a ≡ Some array
  pub may : MayTake array shape
  pub chunks_are : chunks ≡ cut_chunks array shape

-- a shape that a stored array may take, with the array's mount and its form by that shape
pub record IsBegun (events : History) (new : NewShape) : Type 0 where
  pub array : Known
  pub known : known_after events new.array ≡ Some array
  pub may : MayTake array new.shape
  pub mount : mount_of array.info.home ≡ Some new.mount
  pub form : new.form ≡ with_shape (form_of array.info.home) new.shape

-- a chunk of a stored array, by a form, may be cut to the form's shape
pub record MayCut (form : Form) (index : List ℕ) : Type 0 where
  pub stored : meta.is_local form ≡ false
  pub fill : IsWord (dtype_of form) (fill_of form)
  pub chunk : IsChunkOf (shape_of form) (chunk_shape_of form) index

-- what a look told of a chunk that a new shape cuts in part, which has this key
pub record IsCutLook (store : StoreSeen) (log : Log) (new : NewShape) (index key : List ℕ) (look : Look) : Type 0 where
  pub agrees : IsState store log
  pub begun : IsBegun log.events new
  pub cut : (k : Known) → known_after log.events new.array ≡ Some k → is_cut (chunk_shape k.info) k.shape new.shape index ≡ true
  pub reached : reaches_into (chunk_shape_of new.form) (shape_of new.form) index ≡ true
  pub named : (k : Known) → known_after log.events new.array ≡ Some k → key ≡ chunk_key k index
  pub looked : IsLook store log (record { array = new.array; index = index }) look

-- the change of a chunk's key before it's known what is left of the chunk
abbrev pub unfilled : Known → List ℕ → Change
unfilled k index = record { key = chunk_key k index; bytes = None }

-- the bytes of the change at a place
abbrev pub bytes_at : List Change → ℕ → Option (List ℕ)
bytes_at [] place = None
bytes_at (c ∷ changes) zero = c.bytes
bytes_at (c ∷ changes) (suc place) = bytes_at changes place

-- the keys of these chunks, and a change for each of them behind that of the metadata, which is written by the new shape
pub record AreAsked (events : History) (chunks : List (List ℕ)) (asked : Asked) : Type 0 where
  pub begun : IsBegun events asked.plan
  pub key : List ℕ
  pub named : metadata_key begun.array ≡ Some key
  pub keys : asked.plan.keys.items ≡ map (chunk_key begun.array) chunks
  pub changed : keys_of asked.changes.items ≡ key ∷ map (chunk_key begun.array) chunks
  pub metadata : bytes_at asked.changes.items 0 ≡ Some (metadata_text asked.plan.form)

-- the chunk as it is, and its bytes by the array's new shape: past that the fill, and none where every cell has it
pub record IsCutNow (start : Contents) (events : History) (k : Known) (c : Chunk) (shape : List ℕ) (bytes : Option (List ℕ)) : Type 0 where
  pub base : DenseCells
  pub generation : ℕ
  pub snapshot : IsSnapshotOf start events k c generation (word_at base)
  pub sizes : base.shape ≡ chunk_shape k.info
  pub left : IsLeft (with_shape (form_of k.info.home) shape) c.index [] (Some base) bytes

-- what is left of a chunk: nothing where no cell of it is in the new shape
pub record IsLeftOfCut (start : Contents) (events : History) (k : Known) (c : Chunk) (shape : List ℕ) (bytes : Option (List ℕ)) : Type 0 where
  pub gone : reaches_into (chunk_shape k.info) shape c.index ≡ false → bytes ≡ None
  pub part : reaches_into (chunk_shape k.info) shape c.index ≡ true → IsCutNow start events k c shape bytes

-- so it is by each opening with which the state agreed that told its contents
abbrev pub IsLeftBy : StoreSeen → Log → ℕ → List ℕ → List ℕ → Option (List ℕ) → Type 0
IsLeftBy store log a shape index bytes =
    (opening : Opening) (start : Contents) (k : Known) → Agrees opening store log → opening.store.contents ≡ Some start → known_after log.events a ≡ Some k
    → IsLeftOfCut start log.events k (record { array = a; index = index }) shape bytes

-- the first so many chunks have what is left of them, at the places behind the metadata's
abbrev pub AreFilled : StoreSeen → Log → ℕ → List ℕ → List (List ℕ) → List Change → ℕ → Type 0
AreFilled store log a shape chunks changes count =
    (j : ℕ) → j < count → IsLeftBy store log a shape (slice_index_or chunks j []) (bytes_at changes (j + 1))
