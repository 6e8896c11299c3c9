-- What opening an array answers.
use Rattle.std.specs.Prelude.{◌≡◌, ◌⊎◌, ℕ, ◌+◌, List, [], ◌∷◌, ◌++◌, length, Option, Some, None, Result, Ok, Err}
use Rattle.std.specs.FinMap as finmap
use Rattle.array_homes.specs.Opening.{IsBadBy}
use Rattle.array_homes.specs.declared.deciding.OpeningRefusal.{OpeningRefusal}
use Rattle.array_homes.specs.declared.deciding.OpeningRefusal.TheVariants as refusal
use Rattle.history.specs.declared.Form.{Form}
use Rattle.history.specs.Members.{member_name}
use Rattle.kv_face.specs.Store.{Contents}
use Rattle.history.specs.History.{History}
use Rattle.history.specs.Arrays.{Known, ref_of}
use Rattle.history.specs.Leaves.{Leaf, Stored, IsStoredAs, location_of_leaf, metadata_key_asked}
use Rattle.history.specs.OpenRows.{next_array, new_ref}
use Rattle.history.specs.Outcomes.{Outcome, path_taken, bad_metadata, exists, mismatch, there, found, not_found, bad_want, made, opening_outcome, new_info}
use Rattle.history.specs.Own.{opened_event, fault}
use Rattle.history.specs.Places.{array_at, IsFree}
use Rattle.state_laws.specs.Log.{Log}
use Rattle.state_laws.specs.declared.opening.Opened.{Opened}
use Rattle.state_laws.specs.declared.opening.OpenError.{OpenError}
use Rattle.state_laws.specs.declared.opening.OpenError.TheVariants as error

-- the outcome of a leaf; where the history doesn't have it, it is by what the store held at the start, if that was told
pub record IsOutcomeOf (told : Option Contents) (events : History) (leaf : Leaf) (outcome : Outcome) : Type 0 where
  pub stored : Stored
  pub read : (start : Contents) → told ≡ Some start → array_at events (location_of_leaf leaf) ≡ None → IsStoredAs leaf.want (finmap.get start (metadata_key_asked leaf)) stored
  pub same : outcome ≡ opening_outcome events leaf stored

-- a leaf gives a new array with this metadata, which the store had or which was made
pub data IsNewOf (told : Option Contents) (events : History) (leaf : Leaf) : Form → Type 0 where
  read_there : {meta : Form} → IsOutcomeOf told events leaf (found meta) → IsNewOf told events leaf meta
  made_here : {meta : Form} → IsOutcomeOf told events leaf (made meta) → IsNewOf told events leaf meta

-- a new array is the next event
pub record IsAdded (told : Option Contents) (events later : History) (owner : ℕ) (leaf : Leaf) (opened : Opened) (event : ℕ) : Type 0 where
  pub meta : Form
  pub new : IsNewOf told events leaf meta
  pub array : opened.array ≡ new_ref events (new_info (next_array events) leaf meta)
  pub added : later ≡ events ++ opened_event owner (new_info (next_array events) leaf meta) ∷ []
  pub number : event ≡ length events + 1

-- an array of the history adds none
pub record IsThere (told : Option Contents) (events later : History) (leaf : Leaf) (opened : Opened) : Type 0 where
  pub array : Known
  pub outcome : IsOutcomeOf told events leaf (there array)
  pub named : opened.array ≡ ref_of array
  pub same : later ≡ events

abbrev pub IsOpenedBy : Option Contents → History → History → ℕ → Leaf → Opened → Option ℕ → Type 0
IsOpenedBy told events later owner leaf opened None = IsThere told events later leaf opened
IsOpenedBy told events later owner leaf opened (Some event) = IsAdded told events later owner leaf opened event

-- a refusal is the outcome after so many events, and adds none
pub record IsRefusedBy (told : Option Contents) (events later : History) (leaf : Leaf) (why : Outcome) (n : ℕ) : Type 0 where
  pub outcome : IsOutcomeOf told events leaf why
  pub at : n ≡ length events
  pub same : later ≡ events

-- an array lies above or below, whatever the store has, after so many events
pub record IsTakenBy (events later : History) (leaf : Leaf) (other : List ℕ) (n : ℕ) : Type 0 where
  pub outcome : (stored : Stored) → opening_outcome events leaf stored ≡ path_taken other
  pub at : n ≡ length events
  pub same : later ≡ events

-- bytes that are no metadata
pub record IsBadThere (told : Option Contents) (events later : History) (leaf : Leaf) (key text : List ℕ) : Type 0 where
  pub outcome : IsOutcomeOf told events leaf (bad_metadata text)
  pub named : key ≡ metadata_key_asked leaf
  pub same : later ≡ events

-- a failed store call for a leaf that the history doesn't have is one event
pub record HasFailedLeaf (events later : History) (owner : ℕ) (leaf : Leaf) (event : ℕ) : Type 0 where
  pub free : IsFree events (location_of_leaf leaf)
  pub added : later ≡ events ++ fault owner leaf.mount ∷ []
  pub number : event ≡ length events + 1

-- the answer to a leaf, and the events behind it
abbrev pub IsOpening : Option Contents → History → ℕ → Leaf → Result Opened OpenError → History → Type 0
IsOpening told events owner leaf (Ok opened) later = IsOpenedBy told events later owner leaf opened opened.event
IsOpening told events owner leaf (Err (error.PathTaken path at)) later = IsTakenBy events later leaf path at
IsOpening told events owner leaf (Err (error.StoreFailed event)) later = HasFailedLeaf events later owner leaf event
IsOpening told events owner leaf (Err (error.BadMeta key cause)) later = (text : List ℕ) × IsBadBy leaf.want text cause × IsBadThere told events later leaf key text
IsOpening told events owner leaf (Err (error.Exists at)) later = IsRefusedBy told events later leaf exists at
IsOpening told events owner leaf (Err (error.Mismatch member at)) later = IsRefusedBy told events later leaf (mismatch member.now) at
IsOpening told events owner leaf (Err (error.NotFound at)) later = IsRefusedBy told events later leaf not_found at
IsOpening told events owner leaf (Err (error.BadWant member)) later = IsRefusedBy told events later leaf (bad_want (member_name member)) (length events)
IsOpening told events owner leaf (Err error.Memory) later = later ≡ events

-- the answer of an array of the history, by its outcome; of want of memory nothing is said
abbrev pub AnswersKnown : Known → ℕ → Result Opened OpenError → Outcome → Type 0
AnswersKnown k n (Ok opened) outcome = (outcome ≡ there k) × (opened.array ≡ ref_of k) × (opened.event ≡ None)
AnswersKnown k n (Err (error.PathTaken path at)) outcome = ⊥
AnswersKnown k n (Err (error.StoreFailed event)) outcome = ⊥
AnswersKnown k n (Err (error.BadMeta key cause)) outcome = ⊥
AnswersKnown k n (Err (error.Exists at)) outcome = (outcome ≡ exists) × (at ≡ n)
AnswersKnown k n (Err (error.Mismatch member at)) outcome = (outcome ≡ mismatch member.now) × (at ≡ n)
AnswersKnown k n (Err (error.NotFound at)) outcome = ⊥
AnswersKnown k n (Err (error.BadWant member)) outcome = ⊥
AnswersKnown k n (Err error.Memory) outcome = Unit {0}

-- no other refusal comes of a call of the store
abbrev pub IsStoreError : Result Opened OpenError → Type 0
IsStoreError (Ok opened) = ⊥
IsStoreError (Err (error.PathTaken path at)) = ⊥
IsStoreError (Err (error.StoreFailed event)) = Unit {0}
IsStoreError (Err (error.BadMeta key cause)) = ⊥
IsStoreError (Err (error.Exists at)) = ⊥
IsStoreError (Err (error.Mismatch member at)) = ⊥
IsStoreError (Err (error.NotFound at)) = ⊥
IsStoreError (Err (error.BadWant member)) = ⊥
IsStoreError (Err error.Memory) = Unit {0}

-- a refusal by what the store has, as it is answered after so many events
abbrev pub IsRefusalOf : List ℕ → ℕ → OpeningRefusal → OpenError → Type 0
IsRefusalOf key n (refusal.BadMeta cause) answer = (answer ≡ error.BadMeta key cause) ⊎ (answer ≡ error.Memory)
IsRefusalOf key n refusal.Exists answer = answer ≡ error.Exists n
IsRefusalOf key n (refusal.Mismatch member) answer = answer ≡ error.Mismatch member n
IsRefusalOf key n refusal.NotFound answer = answer ≡ error.NotFound n
IsRefusalOf key n (refusal.BadWant member) answer = answer ≡ error.BadWant member
IsRefusalOf key n refusal.Memory answer = answer ≡ error.Memory

-- what stays beside an opening of a stored array: the generations and the chunks that are kept, and no cells come to be held by the run
pub record IsBeside (log later : Log) : Type 0 where
  pub generations : later.generations ≡ log.generations
  pub cache : later.cache ≡ log.cache
  pub locals : (later.locals ≡ log.locals) ⊎ (later.locals ≡ log.locals ++ None ∷ [])
