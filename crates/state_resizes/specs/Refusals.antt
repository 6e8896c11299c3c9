-- Why a chunk isn't cut, and what stands behind that.
use Rattle.std.specs.Prelude.{◌≡◌, ◌<◌, ◌+◌, ℕ, List, [], ◌∷◌, ◌++◌, length, Some, Result, Ok, Err}
use Rattle.chunk_forms.specs.declared.form.Damage.{Damage}
use Rattle.kv_face.specs.Store.{Contents}
use Rattle.history.specs.Commit.{Key}
use Rattle.history.specs.Own.{fault}
use Rattle.history.specs.Refusals.{IsDamagedResize}
use Rattle.chunk_plans.specs.Writes.{IsSameButCache}
use Rattle.chunk_plans.specs.Agreement.{Opening, Agrees}
use Rattle.chunk_plans.specs.Log.{Log}
use Rattle.chunk_plans.specs.Seen.{StoreSeen}
use Rattle.chunk_plans.specs.declared.ChangeError.{ChangeError}
use Rattle.chunk_plans.specs.declared.ChangeError.TheVariants as change
use Rattle.chunk_plans.specs.declared.NewShape.{NewShape}
use Rattle.chunk_plans.specs.declared.FetchError.{FetchError}
use Rattle.chunk_plans.specs.declared.FetchError.TheVariants as fetch
use Rattle.state_resizes.specs.declared.error.ResizeError.{ResizeError}
use Rattle.state_resizes.specs.declared.error.ResizeError.TheVariants as error
use Rattle.state_resizes.specs.Answers.{fixed_by}

-- a call of the store failed, which one event more tells of a mount
pub record IsFailedCall (owner : ℕ) (mount : List ℕ) (store next : StoreSeen) (log later : Log) (event : ℕ) : Type 0 where
  pub rose : store.faults < next.faults
  pub events : later.events ≡ log.events ++ fault owner mount ∷ []
  pub generations : later.generations ≡ log.generations
  pub locals : later.locals ≡ log.locals
  pub number : event ≡ length log.events + 1

-- a chunk of the array that a shape cuts in part is damaged, where the store told its contents at the start
abbrev pub IsDamagedBy : StoreSeen → Log → ℕ → List ℕ → Key → Damage → Type 0
IsDamagedBy store log a shape key cause =
    (opening : Opening) (start : Contents) → Agrees opening store log → opening.store.contents ≡ Some start
    → IsDamagedResize (fixed_by opening start) log.events a shape key cause

-- why it isn't known what is left of a chunk that was looked at
abbrev pub IsUnlaid : StoreSeen → Log → NewShape → FetchError → Type 0
IsUnlaid store log new (fetch.StoreFailed event) = ⊥
IsUnlaid store log new (fetch.Damaged key cause) = IsDamagedBy store log new.array new.shape key cause
IsUnlaid store log new fetch.Memory = Unit {0}

-- why it isn't known what is left of a chunk
abbrev pub IsUnfilled : ℕ → NewShape → StoreSeen → StoreSeen → Log → Log → FetchError → Type 0
IsUnfilled owner new store next log later (fetch.StoreFailed event) = IsFailedCall owner new.mount store next log later event
IsUnfilled owner new store next log later (fetch.Damaged key cause) = IsSameButCache log later × IsDamagedBy store log new.array new.shape key cause
IsUnfilled owner new store next log later fetch.Memory = IsSameButCache log later

-- the same refusals, as a resize answers them
abbrev pub refusal_by : FetchError → ResizeError
refusal_by (fetch.StoreFailed event) = error.StoreFailed event
refusal_by (fetch.Damaged key cause) = error.Damaged key cause
refusal_by fetch.Memory = error.Memory

abbrev pub answer_by : Result ℕ ChangeError → Result ℕ ResizeError
answer_by (Ok n) = Ok n
answer_by (Err (change.StoreFailed event)) = Err (error.StoreFailed event)
answer_by (Err change.Memory) = Err error.Memory
