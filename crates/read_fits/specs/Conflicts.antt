-- Answers to a commit that tell of a conflict.
use Rattle.std.specs.Prelude.{◌≡◌, ◌≢◌, ◌⊎◌, ◌+◌, ℕ, List, take, true, Option, Some, None, codes, option_and_then}
use Rattle.std.specs.List.{slice_get}
use Rattle.serde_json.specs.Data.{Data}
use Rattle.serde_json.specs.Find.{as_number, as_str, as_u64, get}
use Rattle.history.specs.declared.event.Event.{Event}
use Rattle.history.specs.Answers.{conflict}
use Rattle.history.specs.Arrays.{Known, known_after}
use Rattle.history.specs.Chunks.{Chunk, key_of}
use Rattle.history.specs.Commit.{Key, Transaction}
use Rattle.history.specs.CommitRows.{IsChangedOn}
use Rattle.history.specs.Generations.{IsTouched}
use Rattle.history.specs.History.{History}
use Rattle.history.specs.Targets.{Cell}
use Rattle.stated_arrays.specs.Outcomes.{AreKeptOf, IsOpenedAs}
use Rattle.stated_arrays.specs.Outline.{outline}
use Rattle.stated_arrays.specs.declared.Openings.{Openings}
use Rattle.version_store.specs.Kept.{IsCellOf}
use Rattle.version_store.specs.Ids.{id_of}
use Rattle.version_store.specs.Stores.{IsStoreOf}
use Rattle.version_store.specs.declared.store.VersionStore.{VersionStore}
use Rattle.line_fits.specs.Answers.{answer_data}
use Rattle.line_fits.specs.Fitting.{IsConflictTold, printed_at}
use Rattle.line_fits.specs.OneAnswer.{IsCommitted, IsFailure}
use Rattle.line_fits.specs.Text.{answer_text}
use Rattle.line_fits.specs.Transcript.{mount}
use Rattle.read_fits.specs.Owned.{Id, has_id}
use Rattle.read_fits.specs.declared.conflicts.Conflict.{Conflict}

-- the text is that of an answer that tells of a conflict at this key, and reads as its object
pub record IsConflictText (line : ℕ) (text : List ℕ) (d : Data) (key : Key) (read now : ℕ) : Type 0 where
  pub printed : text ≡ answer_text (printed_at line (conflict key read now))
  pub object : d ≡ answer_data (printed_at line (conflict key read now))

-- the text is that of an answer that tells of this conflict, and of no other; or it tells of none
abbrev pub TellsConflict : ℕ → List ℕ → Data → Option Conflict → Type 0
TellsConflict line text d None = (key : Key) (read now : ℕ) → ¬ IsConflictText line text d key read now
TellsConflict line text d (Some c) =
    IsConflictText line text d c.key c.read c.touch
    × ((key : Key) (read now : ℕ) → IsConflictText line text d key read now
    → (key ≡ c.key) × (read ≡ c.read) × (now ≡ c.touch))

-- a commit of a session may be answered by this text, which tells of a conflict
pub record IsConflictAnswer (history : History) (owner : ℕ) (t : Transaction) (line : ℕ) (text : List ℕ)
    (d : Data) : Type 0 where
  pub key : Key
  pub read : ℕ
  pub now : ℕ
  pub may : IsConflictTold history owner t key read now
  pub told : IsConflictText line text d key read now

-- the conflict may be told to the commit
abbrev pub IsToldAs : History → ℕ → Transaction → Option Conflict → Type 0
IsToldAs history owner t None = ⊥
IsToldAs history owner t (Some c) = IsConflictTold history owner t c.key c.read c.touch

-- it may be answered that a store call failed, behind so many events
pub record HasFailed (history : History) (t : Transaction) (line : ℕ) (text : List ℕ) (d : Data) : Type 0 where
  pub number : ℕ
  pub may : IsChangedOn (take number history) t mount
  pub told : IsFailure number line text d

-- it is answered by one event that it did, by a conflict, or by a store call that failed
abbrev pub IsCommitAnswer : History → ℕ → Transaction → ℕ → List ℕ → Data → Type 0
IsCommitAnswer history owner t line text d =
    IsCommitted line text d ⊎ (IsConflictAnswer history owner t line text d ⊎ HasFailed history t line text d)

-- the text under `key` of an object
abbrev pub key_in : Data → Option (List ℕ)
key_in found = option_and_then as_str (get (codes "key") found)

-- the number under a name of an object
abbrev pub number_in : List ℕ → Data → Option ℕ
number_in name found = option_and_then as_u64 (option_and_then as_number (get name found))

-- the arrays, and the events that touched chunks, are those of the history
pub record AreTablesOf (history : History) (openings : Openings) (store : VersionStore) : Type 0 where
  pub outlined : outline history ≡ openings.events
  pub arrays : AreKeptOf openings.events openings.opened openings.places
  pub touches : IsStoreOf history store

-- the chunk has a cell in an array of the history
pub record HasCell (history : History) (c : Chunk) : Type 0 where
  pub array : Known
  pub known : known_after history c.array ≡ Some array
  pub cell : Cell
  pub has : IsCellOf history c cell

-- so has each chunk of these ids
abbrev pub AreChunks : History → List Id → Type 0
AreChunks history ids = (c : Chunk) → has_id ids (id_of c) ≡ true → HasCell history c

-- and the chunk of this id
abbrev pub IsChunkId : History → List ℕ → Type 0
IsChunkId history id = (c : Chunk) → id ≡ id_of c → HasCell history c

-- `read` is 0 or the number of an event that touches the chunk, and `now` is that of one
pub record AreTouches (history : History) (c : Chunk) (read now : ℕ) : Type 0 where
  pub read_at : (read ≡ 0) ⊎ IsTouched history c read
  pub now_at : IsTouched history c now

-- and the chunk has the key
pub record IsMet (history : History) (key : Key) (read now : ℕ) (c : Chunk) : Type 0 where
  pub named : key_of history c ≡ Some key
  pub touches : AreTouches history c read now

-- so is the chunk of this id
abbrev pub IsMetAt : History → Key → ℕ → ℕ → List ℕ → Type 0
IsMetAt history key read now id = (c : Chunk) × (id ≡ id_of c) × IsMet history key read now c

-- and one of the chunks of these ids
abbrev pub IsMetIn : History → Key → ℕ → ℕ → List Id → Type 0
IsMetIn history key read now ids = (c : Chunk) × (has_id ids (id_of c) ≡ true) × IsMet history key read now c

-- the event of this number is another session's
pub record IsOthers (events : History) (owner number : ℕ) : Type 0 where
  pub at : ℕ
  pub event : Event
  pub place : number ≡ at + 1
  pub there : slice_get events at ≡ Some event
  pub other : event.owner ≢ owner

-- the tables have this array under its number
pub record IsArrayOf (openings : Openings) (array : ℕ) (k : Known) : Type 0 where
  pub number : slice_get openings.opened array ≡ Some k.opened
  pub info : IsOpenedAs openings.events openings.opened array k.info
