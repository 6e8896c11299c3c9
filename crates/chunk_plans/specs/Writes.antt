-- What is staged for a chunk, and what a commit makes of it.
use Rattle.std.specs.Prelude.{◌≡◌, ℕ, length, Bool, true, false, ◌&&◌, ◌==◌, Option, Some, None}
use Rattle.std.specs.Option.{ForSome}
use Rattle.cells.specs.Dense.{DenseCells}
use Rattle.cells.specs.Places.{cell_count}
use Rattle.kv_face.specs.Store.{Contents}
use Rattle.history.specs.History.{History}
use Rattle.history.specs.Arrays.{Known, known_after, chunk_shape}
use Rattle.history.specs.Chunks.{Chunk, IsIndexOf, chunk_key}
use Rattle.history.specs.Resizes.{reaches_into}
use Rattle.history.specs.Store.{resized_after}
use Rattle.rebase_writes.specs.Staged.{AreWords}
use Rattle.shared_state.specs.Fetches.{generation_in}
use Rattle.shared_state.specs.Log.{Log}
use Rattle.chunk_plans.specs.declared.plan.Left.{Left}
use Rattle.chunk_plans.specs.declared.plan.Left.TheVariants.{Stored, Held}
use Rattle.chunk_plans.specs.declared.write.ChunkWrite.{ChunkWrite}
use Rattle.chunk_plans.specs.declared.write.Ready.{Ready}
use Rattle.chunk_plans.specs.Under.{IsLeftNow, IsHeldOver}

-- the chunk that a write is of
abbrev pub chunk_of_write : ChunkWrite → Chunk
chunk_of_write w = record { array = w.array; index = w.chunk.now }

-- words are staged for a chunk of an array of the history, which has a cell in the array's shape
pub record IsWriteOf (events : History) (w : ChunkWrite) (k : Known) : Type 0 where
  pub known : known_after events w.array ≡ Some k
  pub valid : IsIndexOf k.info w.chunk.now
  pub named : chunk_key k w.chunk.now ≡ w.key
  pub reached : reaches_into (chunk_shape k.info) k.shape w.chunk.now ≡ true
  pub size : length w.staged.now ≡ cell_count (chunk_shape k.info)
  pub words : AreWords k.info.dtype w.staged.now

abbrev pub IsWrite : History → ChunkWrite → Type 0
IsWrite events w = (k : Known) × IsWriteOf events w k

-- this is the generation, or none is given
abbrev pub is_base : ℕ → Option ℕ → Bool
is_base generation None = true
is_base generation (Some g) = g == generation

-- bytes were prepared over the chunk of a generation, or over none, while the array had its present shape
abbrev pub is_by : ℕ → ℕ → Ready → Bool
is_by generation resized ready = is_base generation ready.generation && resized == ready.resized

-- there are prepared bytes, which may be used as they are
abbrev pub is_usable : ℕ → ℕ → Option Ready → Bool
is_usable generation resized None = false
is_usable generation resized (Some ready) = is_by generation resized ready

abbrev pub may_use : Log → Known → ChunkWrite → Bool
may_use log k w = is_usable (generation_in log k w.key) (resized_after log.events w.array) w.ready

-- what is left of a chunk is the chunk as it is with the staged words over it, of which the cells are told where they may be kept; the cells
-- of a local array get the number of the event
abbrev pub IsPlanOf : Contents → History → ℕ → Known → ChunkWrite → Left → Type 0
IsPlanOf start events number k w (Stored bytes kept) = (cells : DenseCells) × IsLeftNow start events k (chunk_of_write w) w.staged.now cells bytes × ForSome kept (λ d. d ≡ cells)
IsPlanOf start events number k w (Held a cells) = (cells.generation ≡ number) × IsHeldOver start events k (chunk_of_write w) w.staged.now cells.cells

-- prepared cells and bytes that may be used are right
abbrev pub IsReadyBy : Contents → History → Known → ChunkWrite → Option Ready → Type 0
IsReadyBy start events k w None = Unit {0}
IsReadyBy start events k w (Some ready) = IsLeftNow start events k (chunk_of_write w) w.staged.now ready.cells ready.bytes

abbrev pub IsReadyWrite : Contents → Log → Known → ChunkWrite → Type 0
IsReadyWrite start log k w = may_use log k w ≡ true → IsReadyBy start log.events k w w.ready

-- nothing but the cache is another
pub record IsSameButCache (old new : Log) : Type 0 where
  pub events : new.events ≡ old.events
  pub generations : new.generations ≡ old.generations
  pub locals : new.locals ≡ old.locals
