-- A commit that is one event for each key.
use Rattle.std.specs.Prelude.{◌≡◌, ◌<◌, ℕ, ◌+◌, List, [], ◌∷◌, ◌++◌, length, map, take, true, Some, Result, Ok, Err, ◌⊎◌}
use Rattle.std.specs.List.{AllByRecursion, IsDistinct}
use Rattle.std.specs.Str.{bytes_eq}
use Rattle.kv_face.specs.Store.{Contents}
use Rattle.history.specs.declared.event.Event.{Event}
use Rattle.history.specs.declared.event.Mode.{Mode}
use Rattle.history.specs.declared.event.Op.{Op}
use Rattle.history.specs.History.{History}
use Rattle.history.specs.Arrays.{Known, known_after, is_local}
use Rattle.history.specs.Chunks.{Chunk, IsIndexOf, chunk_key}
use Rattle.history.specs.Commit.{Key, done, done_each}
use Rattle.history.specs.Legal.{IsLegal, IsLegalDone}
use Rattle.history.specs.Own.{numbered, numbers_of}
use Rattle.history.specs.ReadRows.{mount_of}
use Rattle.history.specs.Sessions.{new_transaction}
use Rattle.chunk_plans.specs.Agreement.{Opening, Agrees}
use Rattle.chunk_plans.specs.Log.{Log}
use Rattle.chunk_plans.specs.Seen.{StoreSeen}
use Rattle.chunk_plans.specs.declared.plan.Planned.{Planned}
use Rattle.commits.specs.Plans.{IsRightLeft, keys_of}
use Rattle.chunk_plans.specs.Leaving.{HasNumber, IsLeftOf}
use Rattle.chunk_plans.specs.declared.write.ChunkWrite.{ChunkWrite}
use Rattle.chunk_plans.specs.Writes.{IsPlanOf}
use Rattle.commits.specs.declared.refused.CommitRefused.{CommitRefused}
use Rattle.commits.specs.declared.refused.CommitRefused.TheVariants as refused
use Rattle.commits.specs.Planning.{HasFailedFor}
use Rattle.commits.specs.Prepared.{IsStagedWrite}

-- the event of one key
abbrev pub key_event : ℕ → ℕ → Mode → List Op → Key → Event
key_event owner line mode ops key = done owner (new_transaction line mode) ops (Some key)

-- the events of the keys, the first with the Reads
abbrev pub each_event : ℕ → ℕ → Mode → List Op → List Key → List Event
each_event owner line mode ops keys = done_each owner (new_transaction line mode) ops keys

-- the array lies on the mount, or no store holds it
abbrev pub IsMountAt : History → ℕ → List ℕ → Type 0
IsMountAt events a mount = (k : Known) → known_after events a ≡ Some k → (mount_of k.info.home ≡ Some mount) ⊎ (is_local k.info.home ≡ true)

-- a plan is of the chunk of an array of the history that has its key
pub record IsKeyPlan (events : History) (p : Planned) : Type 0 where
  pub chunk : Chunk
  pub array : Known
  pub known : known_after events chunk.array ≡ Some array
  pub valid : IsIndexOf array.info chunk.index
  pub of_array : chunk.array ≡ p.array
  pub of_index : chunk.index ≡ p.chunk.now
  pub named : chunk_key array chunk.index ≡ p.key
  pub left : IsLeftOf array chunk p.left

-- plans for events of one number after another
abbrev pub AreNumbered : ℕ → List Planned → Type 0
AreNumbered number [] = Unit {0}
AreNumbered number (p ∷ plans) = HasNumber number p.left × AreNumbered (number + 1) plans

-- plans of different keys, for the next events
pub record AreKeyPlans (events : History) (plans : List Planned) : Type 0 where
  pub each : AllByRecursion (IsKeyPlan events) plans
  pub numbered : AreNumbered (length events + 1) plans
  pub distinct : IsDistinct bytes_eq (keys_of plans)

abbrev pub plan_arrays : List Planned → List ℕ
plan_arrays plans = map (λ (p : Planned). p.array) plans

-- by what the store told at the start, a plan is right for the event of its key
pub record IsRightKey (start : Contents) (log : Log) (owner line : ℕ) (mode : Mode) (ops : List Op) (p : Planned) : Type 0 where
  pub legal : IsLegalDone start log.events ops
  pub right : (is : IsKeyPlan log.events p) → IsRightLeft start log (key_event owner line mode ops p.key) is.array is.chunk p.left

-- a state agrees behind the event of one key
abbrev pub KeepsByKey : StoreSeen → Log → ℕ → ℕ → Mode → List Op → Planned → StoreSeen → Log → Type 0
KeepsByKey store log owner line mode ops p next later =
    (opening : Opening) → Agrees opening store log → ((start : Contents) → opening.store.contents ≡ Some start → IsRightKey start log owner line mode ops p) → Agrees opening next later

-- the state agrees with an opening by which a plan is right for the event of its key
abbrev pub IsStateByKey : StoreSeen → Log → ℕ → ℕ → Mode → List Op → Planned → Type 0
IsStateByKey store log owner line mode ops p =
    (opening : Opening) × (Agrees opening store log × ((start : Contents) → opening.store.contents ≡ Some start → IsRightKey start log owner line mode ops p))

-- plans are those of writes, each for the event of the next number
abbrev pub AreRightPlans : Contents → History → List Op → ℕ → List ChunkWrite → List Planned → Type 0
AreRightPlans start events ops number [] [] = Unit {0}
AreRightPlans start events ops number [] (p ∷ plans) = ⊥
AreRightPlans start events ops number (w ∷ writes) [] = ⊥
AreRightPlans start events ops number (w ∷ writes) (p ∷ plans) =
    ((staged : IsStagedWrite events ops w) × (p.key ≡ w.key) × IsPlanOf start events number staged.0 w p.left) × AreRightPlans start events ops (number + 1) writes plans

-- by what the store told at the start, all plans are right, each for the event of its key
pub record AreRightKeys (start : Contents) (owner line : ℕ) (mode : Mode) (events : History) (ops : List Op) (plans : List Planned) : Type 0 where
  -- the events may follow one another
  pub legal : IsLegal start (events ++ each_event owner line mode ops (keys_of plans))
  pub writes : List ChunkWrite
  pub are : AreRightPlans start events ops (length events + 1) writes plans

abbrev pub KeepsByKeys : StoreSeen → Log → ℕ → ℕ → Mode → List Op → List Planned → StoreSeen → Log → Type 0
KeepsByKeys store log owner line mode ops plans next later =
    (opening : Opening) → Agrees opening store log → ((start : Contents) → opening.store.contents ≡ Some start → AreRightKeys start owner line mode log.events ops plans) → Agrees opening next later

-- the state agrees with an opening by which all plans are right
abbrev pub IsStateByKeys : StoreSeen → Log → ℕ → ℕ → Mode → List Op → List Planned → Type 0
IsStateByKeys store log owner line mode ops plans =
    (opening : Opening) × (Agrees opening store log × ((start : Contents) → opening.store.contents ≡ Some start → AreRightKeys start owner line mode log.events ops plans))

-- so many of these events were added, and then one more told that the store failed
pub record IsPartFailed (owner : ℕ) (arrays : List ℕ) (store next : StoreSeen) (events later : History) (all : List Event) (event : ℕ) (numbers : List ℕ) : Type 0 where
  pub count : ℕ
  pub fewer : count < length all
  pub counted : numbers ≡ numbers_of (numbered (length events + 1) (take count all))
  pub failed : HasFailedFor owner arrays store next (events ++ take count all) later event

-- so many of them were added, and no other
pub record IsPartAdded (events later : History) (all : List Event) : Type 0 where
  pub count : ℕ
  pub fewer : count < length all
  pub added : later ≡ events ++ take count all

-- the answer of a commit by keys, once all is planned
abbrev pub IsMadeEach : ℕ → List ℕ → StoreSeen → StoreSeen → History → History → List Event → Result (List ℕ) CommitRefused → Type 0
IsMadeEach owner arrays store next events later all (Ok numbers) = (later ≡ events ++ all) × (numbers ≡ numbers_of (numbered (length events + 1) all))
IsMadeEach owner arrays store next events later all (Err (refused.Conflict key read now)) = ⊥
IsMadeEach owner arrays store next events later all (Err (refused.Shrunk key now)) = ⊥
IsMadeEach owner arrays store next events later all (Err (refused.NotAtomic keys)) = ⊥
IsMadeEach owner arrays store next events later all (Err (refused.Damaged key cause)) = ⊥
IsMadeEach owner arrays store next events later all (Err (refused.StoreFailed event numbers)) = IsPartFailed owner arrays store next events later all event numbers
IsMadeEach owner arrays store next events later all (Err refused.Memory) = IsPartAdded events later all
