-- The store holds exactly what the history says.
use Rattle.std.specs.Prelude.{◌≡◌, ◌≢◌, ◌<◌, nat_lt, ℕ, ◌+◌, List, length, take, false, ◌==◌, Option, Some, None, if◌then◌else◌}
use Rattle.std.specs.FinMap as finmap
use Rattle.cells.specs.Places.{IsInside}
use Rattle.kv_face.specs.Store.{Contents}
use Rattle.chunk_forms.specs.Grammar.{WritesChunk}
use Rattle.chunk_forms.specs.Metadata.{metadata_text, with_shape}
use Rattle.history.specs.declared.event.Kind.{Kind}
use Rattle.history.specs.declared.event.Kind.TheVariants.{Opened, Done, Resized, Fault}
use Rattle.history.specs.History.{History, after}
use Rattle.history.specs.Arrays.{Known, known_after, chunk_shape, form_of, is_local}
use Rattle.history.specs.Chunks.{Chunk, IsIndexOf, cell_at, key_of, metadata_key}
use Rattle.history.specs.Touch.{generation_of}
use Rattle.history.specs.Content.{content_after, present_shape}
use Rattle.history.specs.Legal.{IsLegal}

-- every cell of the chunk has the fill, also past the array's shape
abbrev pub IsAllFill : Contents → History → Known → Chunk → Type 0
IsAllFill start events k c = (index : List ℕ) → IsInside (chunk_shape k.info) index → content_after start events (cell_at k c index) ≡ Some k.info.fill

-- the array's shape after the last event that touches the chunk
abbrev pub shape_when_touched : History → Chunk → List ℕ
shape_when_touched events c = present_shape (known_after (take (generation_of events c) events) c.array)

-- the bytes are what is written for a chunk of these words by this shape
pub record WritesContent (start : Contents) (events : History) (k : Known) (c : Chunk) (shape bytes : List ℕ) : Type 0 where
  pub word : List ℕ → ℕ
  pub writes : WritesChunk (form_of k.info.home) c.index shape bytes word
  pub cells : (index : List ℕ) → IsInside (chunk_shape k.info) index → content_after start events (cell_at k c index) ≡ Some (word index)

-- a chunk of the fill alone isn't stored, and any other is
abbrev pub IsChunkKept : Contents → History → Known → Chunk → List ℕ → Option (List ℕ) → Type 0
IsChunkKept start events k c shape None = IsAllFill start events k c
IsChunkKept start events k c shape (Some bytes) = WritesContent start events k c shape bytes × ¬ (IsAllFill start events k c)

-- a chunk of a stored array that an event after the array's opening touches
pub record IsChanged (events : History) (k : Known) (c : Chunk) : Type 0 where
  pub known : known_after events c.array ≡ Some k
  pub stored : is_local k.info.home ≡ false
  pub valid : IsIndexOf k.info c.index
  pub touched : k.opened < generation_of events c

-- the number of the last event that resizes the array, after one event more
abbrev pub resized_step : ℕ → History → Kind → ℕ → ℕ
resized_step a before (Opened info) n = n
resized_step a before (Done line mode ops key) n = n
resized_step a before (Resized b shape) n = if b == a then length before + 1 else n
resized_step a before (Fault mount) n = n

-- the number of the last event that resizes the array, else 0
abbrev pub resized_after : History → ℕ → ℕ
resized_after events a = after (λ before e n. resized_step a before e.kind n) 0 events

-- what the metadata key holds: what it held at the start, unless there was nothing or the array was resized; then the written form with
-- the present shape
abbrev pub metadata_bytes : History → ℕ → Known → Option (List ℕ) → Option (List ℕ)
metadata_bytes events a k None = Some (metadata_text (with_shape (form_of k.info.home) k.shape))
metadata_bytes events a k (Some bytes) =
    if nat_lt 0 (resized_after events a) then Some (metadata_text (with_shape (form_of k.info.home) k.shape)) else Some bytes

-- an array's metadata has this key
pub record HasMetadataKey (events : History) (a : ℕ) (k : Known) (key : List ℕ) : Type 0 where
  pub known : known_after events a ≡ Some k
  pub named : metadata_key k ≡ Some key

-- the store, which began with `start`, holds what the history says at each key
pub record RepresentsHistory (store start : Contents) (events : History) : Type 0 where
  -- the metadata of each stored array is there
  pub metadata : (a : ℕ) (k : Known) (key : List ℕ) → HasMetadataKey events a k key → finmap.get store key ≡ metadata_bytes events a k (finmap.get start key)
  -- each changed chunk is there as it is now, written by the shape that its array had when the chunk was last touched, or absent
  pub chunks : (c : Chunk) (k : Known) (key : List ℕ) → IsChanged events k c → key_of events c ≡ Some key → IsChunkKept start events k c (shape_when_touched events c) (finmap.get store key)
  -- every other key is as it was at the start
  pub others : (key : List ℕ) → ((c : Chunk) (k : Known) → IsChanged events k c → key_of events c ≢ Some key) → ((a : ℕ) (k : Known) → ¬ HasMetadataKey events a k key) → finmap.get store key ≡ finmap.get start key

-- the history is legal, and where the store tells its contents, they are what it says
pub record IsConsistent (start : Contents) (contents : Option Contents) (events : History) : Type 0 where
  pub legal : IsLegal start events
  pub represents : (store : Contents) → contents ≡ Some store → RepresentsHistory store start events
