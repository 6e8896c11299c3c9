-- What a commit that isn't refused answers.
use Rattle.std.specs.Prelude.{◌≡◌, ◌<◌, ℕ, ◌+◌, List, ◌++◌, length, take, Result, Ok, Err, None}
use Rattle.history.specs.declared.event.Event.{Event}
use Rattle.history.specs.Commit.{done}
use Rattle.history.specs.Own.{numbered, numbers_of}
use Rattle.history.specs.Sessions.{new_transaction}
use Rattle.chunk_plans.specs.Log.{Log}
use Rattle.chunk_plans.specs.Seen.{StoreSeen}
use Rattle.chunk_plans.specs.declared.plan.Planned.{Planned}
use Rattle.chunk_plans.specs.declared.write.ChunkWrite.{ChunkWrite}
use Rattle.commits.specs.declared.prepared.Prepared.{Prepared}
use Rattle.commits.specs.declared.refused.CommitRefused.{CommitRefused}
use Rattle.commits.specs.declared.refused.CommitRefused.TheVariants as refused
use Rattle.commits.specs.Planning.{ArePlannedBy, HasFailedFor, IsFirstDamaged, write_arrays}

-- all writes were planned, and these are the events that were added, of this number on
pub record IsDoneWhole (store : StoreSeen) (log later : Log) (step : ℕ) (writes : List ChunkWrite) (all : List Event) (numbers : List ℕ) : Type 0 where
  pub plans : List Planned
  pub planned : ArePlannedBy store log (length log.events + 1) step writes plans
  pub added : later.events ≡ log.events ++ all
  pub counted : numbers ≡ numbers_of (numbered (length log.events + 1) all)

-- so many of the events were added, fewer than all, before one more told that the store failed
pub record IsDonePart (owner : ℕ) (store next : StoreSeen) (log later : Log) (step : ℕ) (writes : List ChunkWrite) (all : List Event) (event : ℕ) (numbers : List ℕ) : Type 0 where
  pub count : ℕ
  pub fewer : count < length all
  pub planned : 0 < count → (plans : List Planned) × ArePlannedBy store log (length log.events + 1) step writes plans
  pub counted : numbers ≡ numbers_of (numbered (length log.events + 1) (take count all))
  pub failed : HasFailedFor owner (write_arrays writes) store next (log.events ++ take count all) later.events event

-- so many of the events were added, fewer than all
pub record IsWantingPart (store : StoreSeen) (log later : Log) (step : ℕ) (writes : List ChunkWrite) (all : List Event) : Type 0 where
  pub count : ℕ
  pub fewer : count < length all
  pub planned : 0 < count → (plans : List Planned) × ArePlannedBy store log (length log.events + 1) step writes plans
  pub added : later.events ≡ log.events ++ take count all

-- the answer of a commit that would add these events
abbrev pub IsMade : ℕ → StoreSeen → StoreSeen → Log → Log → ℕ → List ChunkWrite → List Event → Result (List ℕ) CommitRefused → Type 0
IsMade owner store next log later step writes all (Ok numbers) = IsDoneWhole store log later step writes all numbers
IsMade owner store next log later step writes all (Err (refused.Conflict key read now)) = ⊥
IsMade owner store next log later step writes all (Err (refused.Shrunk key now)) = ⊥
IsMade owner store next log later step writes all (Err (refused.NotAtomic keys)) = ⊥
IsMade owner store next log later step writes all (Err (refused.Damaged key cause)) = (later.events ≡ log.events) × IsFirstDamaged store log (length log.events + 1) step writes key cause
IsMade owner store next log later step writes all (Err (refused.StoreFailed event numbers)) = IsDonePart owner store next log later step writes all event numbers
IsMade owner store next log later step writes all (Err refused.Memory) = IsWantingPart store log later step writes all

-- the one event of a commit
abbrev pub whole_event : ℕ → Prepared → Event
whole_event owner p = done owner (new_transaction p.line p.mode) p.ops None
