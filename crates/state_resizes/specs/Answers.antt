-- What a resize answers, and what stays.
use Rattle.std.specs.Prelude.{◌≡◌, ◌<◌, ◌+◌, ℕ, List, [], ◌∷◌, ◌++◌, length, Option, Some, Result, Ok, Err, OnOk, OnErr}
use Rattle.chunk_forms.specs.declared.form.Damage.{Damage}
use Rattle.kv_face.specs.Store.{Contents}
use Rattle.history.specs.Arrays.{Known, known_after}
use Rattle.history.specs.Commit.{Key, Fixed}
use Rattle.history.specs.History.{History}
use Rattle.history.specs.Own.{fault, resized_event}
use Rattle.history.specs.ReadRows.{IsOnMount}
use Rattle.history.specs.Refusals.{HasTooManyCut, IsNotAtomicResize, IsDamagedResize, resized_keys}
use Rattle.history.specs.ResizeRows.{MayResize, HasNoDamagedPart}
use Rattle.chunk_plans.specs.Recorded.{with_numbers}
use Rattle.chunk_plans.specs.Agreement.{Opening, Agrees, KeepsAgreement}
use Rattle.chunk_plans.specs.Log.{Log}
use Rattle.chunk_plans.specs.Seen.{StoreSeen, IsFrame, IsQuiet}
use Rattle.state_resizes.specs.declared.error.ResizeError.{ResizeError}
use Rattle.state_resizes.specs.declared.error.ResizeError.TheVariants as error

-- the array has the shape by one event more; where the store told its contents at the start, no chunk that is cut in part was damaged
pub record IsResized (fixed : Fixed) (told : Option Contents) (events later : History) (owner a : ℕ) (shape : List ℕ) (n : ℕ) : Type 0 where
  pub may : MayResize fixed events a shape
  pub sound : told ≡ Some fixed.start → HasNoDamagedPart fixed events a shape
  pub number : n ≡ length events + 1
  pub added : later ≡ events ++ resized_event owner a shape ∷ []

-- too many chunks have a cell that is cut, after so many events
pub record HasTooMany (events later : History) (a : ℕ) (shape : List ℕ) (at : ℕ) : Type 0 where
  pub many : HasTooManyCut (known_after events a) shape
  pub after : at ≡ length events
  pub same : later ≡ events

-- the store can't change so many keys together
pub record IsSplit (fixed : Fixed) (events later : History) (a : ℕ) (shape : List ℕ) (keys : ℕ) : Type 0 where
  pub few : ¬ HasTooManyCut (known_after events a) shape
  pub apart : IsNotAtomicResize fixed events a shape keys
  pub same : later ≡ events

-- a chunk that is cut in part is damaged, where the store told its contents at the start
pub record HasDamage (fixed : Fixed) (told : Option Contents) (events later : History) (a : ℕ) (shape : List ℕ) (key : Key) (cause : Damage) : Type 0 where
  pub may : MayResize fixed events a shape
  pub damaged : told ≡ Some fixed.start → IsDamagedResize fixed events a shape key cause
  pub same : later ≡ events

-- the store failed, which one event more tells of the array's mount
pub record IsFailedResize (fixed : Fixed) (events later : History) (owner a : ℕ) (shape : List ℕ) (event : ℕ) : Type 0 where
  pub may : MayResize fixed events a shape
  pub mount : List ℕ
  pub on_mount : IsOnMount mount (known_after events a)
  pub number : event ≡ length events + 1
  pub added : later ≡ events ++ fault owner mount ∷ []

-- the answer to a resize, and the events behind it
abbrev pub IsAnswer : Fixed → Option Contents → History → ℕ → ℕ → List ℕ → Result ℕ ResizeError → History → Type 0
IsAnswer fixed told events owner a shape (Ok n) later = IsResized fixed told events later owner a shape n
IsAnswer fixed told events owner a shape (Err (error.TooManyChunks at)) later = HasTooMany events later a shape at
IsAnswer fixed told events owner a shape (Err (error.NotAtomic keys)) later = IsSplit fixed events later a shape keys
IsAnswer fixed told events owner a shape (Err (error.Damaged key cause)) later = HasDamage fixed told events later a shape key cause
IsAnswer fixed told events owner a shape (Err (error.StoreFailed event)) later = IsFailedResize fixed events later owner a shape event
IsAnswer fixed told events owner a shape (Err error.Memory) later = later ≡ events

-- an opening's prefixes, and contents of the start, which are the opening's where that told them
abbrev pub fixed_by : Opening → Contents → Fixed
fixed_by opening start = record { start = start; prefixes = opening.store.prefixes }

-- what a resize answers, and what it leaves of a state: of its store, and of its log
pub record IsResize (owner a : ℕ) (shape : List ℕ) (store next : StoreSeen) (log later : Log) (r : Result ℕ ResizeError) : Type 0 where
  -- by each opening with which the state agreed
  pub answer : (opening : Opening) (start : Contents) → Agrees opening store log
      → IsAnswer (fixed_by opening start) opening.store.contents log.events owner a shape r later.events
  -- with which it agrees behind it, so that the store has what the history says
  pub kept : KeepsAgreement store log next later
  pub frame : IsFrame store next
  -- a refusal changes nothing of the store, and comes of a failed call exactly where the count of faults rose
  pub quiet : OnErr r (IsQuiet store next)
  pub rose : (event : ℕ) → r ≡ Err (error.StoreFailed event) → store.faults < next.faults
  pub told : store.faults < next.faults → (event : ℕ) × (r ≡ Err (error.StoreFailed event))
  -- the chunks that are cut have the event's number, all others the generation that they had
  pub numbers : OnOk r ((k : Known) → known_after log.events a ≡ Some k
      → later.generations ≡ with_numbers (length log.events + 1) log.generations (resized_keys k a shape))
  pub generations : OnErr r (later.generations ≡ log.generations)
  -- local arrays keep their cells
  pub locals : later.locals ≡ log.locals
