-- What reading a chunk answers.
use Rattle.std.specs.Prelude.{◌≡◌, ◌<◌, ◌+◌, ℕ, List, [], ◌∷◌, ◌++◌, length, ◌==◌, Option, Some, unwrap_or, if◌then◌else◌}
use Rattle.std.specs.FinMap as finmap
use Rattle.chunk_cache.specs.Cache.{kept, after_hit, after_keep}
use Rattle.chunk_cache.specs.Snapshot.{SnapshotCells}
use Rattle.history.specs.declared.Damage.{Damage}
use Rattle.kv_face.specs.Store.{Contents}
use Rattle.history.specs.History.{History}
use Rattle.history.specs.Arrays.{Known, known_after, is_local}
use Rattle.history.specs.Chunks.{Chunk, IsIndexOf, chunk_key}
use Rattle.history.specs.Damaged.{IsDamaged}
use Rattle.history.specs.Own.{fault}
use Rattle.history.specs.Store.{resized_after}
use Rattle.history.specs.Touch.{generation_of}
use Rattle.state_laws.specs.Seen.{StoreSeen}
use Rattle.state_laws.specs.Log.{Log, cells_held}
use Rattle.state_laws.specs.Agreement.{Opening, Agrees}
use Rattle.state_laws.specs.declared.reading.Bounds.{Bounds}
use Rattle.state_laws.specs.Kept.{AreCellsOf, IsCurrent}

-- a chunk of an array of the history
pub record IsChunkOf (events : History) (c : Chunk) : Type 0 where
  pub array : Known
  pub known : known_after events c.array ≡ Some array
  pub valid : IsIndexOf array.info c.index

-- and this is its key
pub record IsNamed (events : History) (c : Chunk) (key : List ℕ) : Type 0 where
  pub array : Known
  pub known : known_after events c.array ≡ Some array
  pub valid : IsIndexOf array.info c.index
  pub named : chunk_key array c.index ≡ key

-- an array's present shape, and the number of the event that gave it, 0 where that was its opening
abbrev pub bounds_in : History → ℕ → Known → Bounds
bounds_in events a k = record { shape = k.shape; resized = resized_after events a }

-- these are the chunk's cells: of its dtype, shape and generation, and as they are now where the store told its contents at the start
pub record IsAnswered (store : StoreSeen) (log : Log) (c : Chunk) (snapshot : SnapshotCells) : Type 0 where
  pub generation : snapshot.generation ≡ generation_of log.events c
  pub cells : (k : Known) → known_after log.events c.array ≡ Some k → AreCellsOf k snapshot
  pub now : (opening : Opening) (start : Contents) (k : Known) → Agrees opening store log → opening.store.contents ≡ Some start → known_after log.events c.array ≡ Some k → IsCurrent start log.events k c snapshot

-- the chunk's bytes at the start are none of its array's, and nothing has touched it since the opening
abbrev pub IsDamagedThere : StoreSeen → Log → Chunk → List ℕ → Damage → Type 0
IsDamagedThere store log c key cause = (opening : Opening) (start : Contents) → Agrees opening store log → opening.store.contents ≡ Some start → IsDamaged start log.events c key cause

-- a store call for an array of a mount failed: the count of faults rose, and one event more says so
pub record HasFailed (owner : ℕ) (mount : List ℕ) (store next : StoreSeen) (log later : Log) (event : ℕ) : Type 0 where
  pub rose : store.faults < next.faults
  pub added : later ≡ record log { events = log.events ++ fault owner mount ∷ [] }
  pub number : event ≡ length log.events + 1

-- the log after a look at what is kept of a chunk: the entry of a stored array's chunk comes first
abbrev pub looked_at : Log → Known → List ℕ → Log
looked_at log k key = if is_local k.info.home then log else record log { cache = record log.cache { entries = after_hit key log.cache.entries } }

-- what is kept of a chunk: of a local array the cells that the run holds
abbrev pub kept_of : Log → ℕ → Known → List ℕ → Option SnapshotCells
kept_of log a k key = if is_local k.info.home then cells_held log a else kept key log.cache.entries

-- the generation of a chunk by the table: that of its key, else the number of its array's opening
abbrev pub generation_in : Log → Known → List ℕ → ℕ
generation_in log k key = unwrap_or (finmap.get log.generations key) k.opened

-- the log after a chunk's cells were settled: they are kept where their generation is still the chunk's, and a store holds the array
abbrev pub settled : Log → Known → List ℕ → SnapshotCells → Log
settled log k key snapshot =
    if is_local k.info.home then log
    else (if generation_in log k key == snapshot.generation then record log { cache = record log.cache { entries = after_keep log.cache.limit key snapshot log.cache.entries } } else log)

-- cells that may be settled: of the chunk's dtype and shape, and where the store told its contents at the start and their generation is
-- the chunk's, those of the chunk
pub record MaySettle (opening : Opening) (log : Log) (c : Chunk) (snapshot : SnapshotCells) : Type 0 where
  pub cells : (k : Known) → known_after log.events c.array ≡ Some k → AreCellsOf k snapshot
  pub now : (start : Contents) (k : Known) → opening.store.contents ≡ Some start → known_after log.events c.array ≡ Some k → snapshot.generation ≡ generation_of log.events c → IsCurrent start log.events k c snapshot

-- behind cells that were settled, a state agrees with each opening by which they may be
abbrev pub KeepsSettled : StoreSeen → Log → Chunk → SnapshotCells → StoreSeen → Log → Type 0
KeepsSettled store log c snapshot next later = (opening : Opening) → Agrees opening store log → MaySettle opening log c snapshot → Agrees opening next later
