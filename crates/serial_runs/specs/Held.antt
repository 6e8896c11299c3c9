-- A store that holds exactly the plain arrays of a history, which began over an empty store.
use Rattle.std.specs.Prelude.{◌≡◌, ℕ, List, false, Option, Some, None, if◌then◌else◌}
use Rattle.std.specs.FinMap as finmap
use Rattle.cells.specs.Places.{IsInside}
use Rattle.kv_face.specs.Store.{Contents}
use Rattle.history.specs.Grammar.{WritesChunk}
use Rattle.history.specs.Metadata.{metadata_text, with_shape}
use Rattle.history.specs.Words.{is_inside}
use Rattle.stack_driver.specs.Targets.{Cell}
use Rattle.history.specs.History.{History}
use Rattle.history.specs.Arrays.{Known, known_after, chunk_shape, form_of, is_local}
use Rattle.history.specs.Chunks.{Chunk, IsIndexOf, cell_at, key_of}
use Rattle.history.specs.Plain.{plain_after}
use Rattle.history.specs.Store.{shape_when_touched, HasMetadataKey}

-- a chunk of a stored array, and its key
pub record IsStoredChunk (history : History) (k : Known) (c : Chunk) (key : List ℕ) : Type 0 where
  pub known : known_after history c.array ≡ Some k
  pub stored : is_local k.info.home ≡ false
  pub valid : IsIndexOf k.info c.index
  pub named : key_of history c ≡ Some key

-- the word at a cell of a chunk: inside the array's shape that of the plain array, past it the fill
abbrev pub padded_word : History → Known → Cell → Option ℕ
padded_word history k x = if is_inside k.shape x.index then (plain_after history).words x else Some k.info.fill

-- every cell of the chunk has the fill
abbrev pub IsFillAlone : History → Known → Chunk → Type 0
IsFillAlone history k c = (index : List ℕ) → IsInside (chunk_shape k.info) index → padded_word history k (cell_at k c index) ≡ Some k.info.fill

-- the bytes are what is written for a chunk of these words, by the shape that its array had when an event last touched it
pub record WritesPlainWords (history : History) (k : Known) (c : Chunk) (bytes : List ℕ) : Type 0 where
  pub word : List ℕ → ℕ
  pub writes : WritesChunk (form_of k.info.home) c.index (shape_when_touched history c) bytes word
  pub cells : (index : List ℕ) → IsInside (chunk_shape k.info) index
      → padded_word history k (cell_at k c index) ≡ Some (word index)

-- a chunk of the fill alone isn't stored, and any other is
abbrev pub IsHeld : History → Known → Chunk → Option (List ℕ) → Type 0
IsHeld history k c None = IsFillAlone history k c
IsHeld history k c (Some bytes) = WritesPlainWords history k c bytes × ¬ (IsFillAlone history k c)

-- the store holds the metadata of each stored array with its present shape, each of its chunks, and nothing else
pub record HoldsArrays (store : Contents) (history : History) : Type 0 where
  pub metadata : (a : ℕ) (k : Known) (key : List ℕ) → HasMetadataKey history a k key
      → finmap.get store key ≡ Some (metadata_text (with_shape (form_of k.info.home) k.shape))
  pub chunks : (c : Chunk) (k : Known) (key : List ℕ) → IsStoredChunk history k c key
      → IsHeld history k c (finmap.get store key)
  pub others : (key : List ℕ) → ((c : Chunk) (k : Known) → ¬ IsStoredChunk history k c key)
      → ((a : ℕ) (k : Known) → ¬ HasMetadataKey history a k key) → finmap.get store key ≡ None
