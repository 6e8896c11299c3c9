-- What a look at a chunk gives.
use Rattle.std.specs.Prelude.{◌≡◌, ◌<◌, ℕ, List, false, Option, Some, None, Result, Err}
use Rattle.std.specs.FinMap as finmap
use Rattle.chunk_cache.specs.Cache.{kept}
use Rattle.history.specs.declared.Form.{Form}
use Rattle.history.specs.Metadata.{with_shape}
use Rattle.kv_face.specs.Store.{Contents}
use Rattle.history.specs.Arrays.{Known, known_after, form_of, is_local}
use Rattle.history.specs.Chunks.{Chunk, IsIndexOf, chunk_key}
use Rattle.history.specs.ReadRows.{mount_of}
use Rattle.state_laws.specs.declared.error.FetchError.{FetchError}
use Rattle.state_laws.specs.declared.error.FetchError.TheVariants as error
use Rattle.state_laws.specs.declared.reading.Bounds.{Bounds}
use Rattle.state_laws.specs.declared.reading.Look.{Look}
use Rattle.state_laws.specs.declared.reading.Look.TheVariants as look
use Rattle.state_laws.specs.Seen.{StoreSeen, IsRead}
use Rattle.state_laws.specs.Log.{Log}
use Rattle.state_laws.specs.Agreement.{KeepsAgreement}
use Rattle.state_laws.specs.Fetches.{IsAnswered, HasFailed, bounds_in, kept_of, generation_in}

-- these are the array's present bounds
abbrev pub HasBounds : Log → ℕ → Bounds → Type 0
HasBounds log a bounds = (k : Known) → known_after log.events a ≡ Some k → bounds ≡ bounds_in log.events a k

-- what the store has under the key of a chunk that isn't kept, with the chunk's generation and its array's present form
pub record IsStoredLook (store : StoreSeen) (log : Log) (c : Chunk) (generation : ℕ) (form : Form) (bytes : Option (List ℕ)) : Type 0 where
  pub array : Known
  pub known : known_after log.events c.array ≡ Some array
  pub valid : IsIndexOf array.info c.index
  pub stored : is_local array.info.home ≡ false
  pub unkept : kept (chunk_key array c.index) log.cache.entries ≡ None
  pub form_is : form ≡ with_shape (form_of array.info.home) array.shape
  pub generation_is : generation ≡ generation_in log array (chunk_key array c.index)
  pub held : (m : Contents) → store.contents ≡ Some m → bytes ≡ finmap.get m (chunk_key array c.index)

-- the store call for a chunk that isn't kept failed
pub record IsFailedLook (owner : ℕ) (c : Chunk) (store next : StoreSeen) (log later : Log) (event : ℕ) : Type 0 where
  pub array : Known
  pub known : known_after log.events c.array ≡ Some array
  pub unkept : kept_of log c.array array (chunk_key array c.index) ≡ None
  pub mount : List ℕ
  pub on_mount : mount_of array.info.home ≡ Some mount
  pub failed : HasFailed owner mount store next log later event

-- the chunk was kept, or this is what the store has of it
abbrev pub IsLook : StoreSeen → Log → Chunk → Look → Type 0
IsLook store log c (look.Kept snapshot bounds) = IsAnswered store log c snapshot × HasBounds log c.array bounds
IsLook store log c (look.Bytes generation form bytes bounds) = IsStoredLook store log c generation form bytes × HasBounds log c.array bounds

-- what a look at a chunk or a fetch of it leaves, whatever it answers: the store as a reader leaves it; where the store failed, one event
-- more, and the count of faults rises for no other answer; where memory was wanting, the log as it was
pub record LeavesRead {A : Type 0} (owner : ℕ) (c : Chunk) (store next : StoreSeen) (log later : Log) (result : Result A FetchError) : Type 0 where
  pub read : IsRead store next
  pub failed : (event : ℕ) → result ≡ Err (error.StoreFailed event) → IsFailedLook owner c store next log later event
  pub told : store.faults < next.faults → (event : ℕ) × (result ≡ Err (error.StoreFailed event))
  pub memory : result ≡ Err error.Memory → later ≡ log
  pub kept : KeepsAgreement store log next later
