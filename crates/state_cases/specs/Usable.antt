-- What a look told, as it may be settled.
use Rattle.std.specs.Prelude.{◌≡◌, ℕ, List, Option, Some, false}
use Rattle.cells.specs.Elements.{word_at}
use Rattle.cells.specs.Numbers.{IsWord}
use Rattle.cells.specs.Places.{IsInside}
use Rattle.chunk_cache.specs.Snapshot.{SnapshotCells}
use Rattle.chunk_forms.specs.declared.form.Form.{Form}
use Rattle.chunk_forms.specs.Metadata.{chunk_shape_of, dtype_of, fill_of, is_local}
use Rattle.chunk_forms.specs.Words.{stored_word}
use Rattle.history.specs.Chunks.{Chunk}
use Rattle.state_laws.specs.declared.reading.Look.{Look}
use Rattle.state_laws.specs.declared.reading.Look.TheVariants as look
use Rattle.state_laws.specs.Agreement.{Opening}
use Rattle.state_laws.specs.Fetches.{MaySettle}
use Rattle.state_laws.specs.Log.{Log}
use Rattle.state_laws.specs.Seen.{StoreSeen}
use Rattle.state_cases.specs.Ready.{IsReady}

-- the cells are what the bytes of a chunk of this form spell, at this generation
pub record AreSpelled (generation : ℕ) (form : Form) (bytes : Option (List ℕ)) (snapshot : SnapshotCells) : Type 0 where
  pub same : snapshot.generation ≡ generation
  pub dtype : snapshot.cells.dtype ≡ dtype_of form
  pub shape : snapshot.cells.shape ≡ chunk_shape_of form
  pub words : (index : List ℕ) → IsInside (chunk_shape_of form) index → stored_word form (fill_of form) bytes index ≡ Some (word_at snapshot.cells index)

-- the bytes can be decoded, and what they spell may be settled
pub record IsDecodable (opening : Opening) (log : Log) (c : Chunk) (generation : ℕ) (form : Form) (bytes : Option (List ℕ)) : Type 0 where
  pub stored : is_local form ≡ false
  pub fill : IsWord (dtype_of form) (fill_of form)
  pub settles : (snapshot : SnapshotCells) → AreSpelled generation form bytes snapshot → MaySettle opening log c snapshot

-- a chunk that was kept is no more settled
abbrev pub IsUsable : Opening → Log → Chunk → Look → Type 0
IsUsable opening log c (look.Kept snapshot bounds) = Unit {0}
IsUsable opening log c (look.Bytes generation form bytes bounds) = IsDecodable opening log c generation form bytes

-- a state on which calls may be made, and what a look at it told
pub record IsReadyWith (store : StoreSeen) (log : Log) (c : Chunk) (found : Look) : Type 0 where
  pub ready : IsReady store log
  pub usable : IsUsable ready.opening log c found

-- and what its bytes are
pub record IsReadyFor (store : StoreSeen) (log : Log) (c : Chunk) (generation : ℕ) (form : Form) (bytes : Option (List ℕ)) : Type 0 where
  pub ready : IsReady store log
  pub usable : IsDecodable ready.opening log c generation form bytes

-- and cells that may be settled
pub record IsReadyBy (store : StoreSeen) (log : Log) (c : Chunk) (snapshot : SnapshotCells) : Type 0 where
  pub ready : IsReady store log
  pub may : MaySettle ready.opening log c snapshot
