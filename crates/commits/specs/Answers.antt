-- A commit as a row of a session's step.
use Rattle.std.specs.Prelude.{◌≡◌, ◌⊎◌, ◌<◌, ℕ, ◌+◌, List, [], ◌∷◌, length, take, ◌++◌, Option, Some, None, Result, Ok, Err}
use Rattle.std.specs.List.{AllByRecursion}
use Rattle.kv_face.specs.Store.{Contents}
use Rattle.history.specs.declared.event.Event.{Event}
use Rattle.history.specs.Answers as body
use Rattle.history.specs.Answers.{Body}
use Rattle.history.specs.History.{History}
use Rattle.history.specs.Commit.{Fixed, Transaction}
use Rattle.history.specs.CommitRows.{IsCommit, left_by}
use Rattle.history.specs.Legal.{viewed}
use Rattle.history.specs.Refs.{HasKnownRefs}
use Rattle.history.specs.Own.{Numbered, numbered, numbers_of}
use Rattle.history.specs.Staged.{IsStaged, IsTransaction}
use Rattle.history.specs.Arrays.{Known, known_after}
use Rattle.chunk_plans.specs.Agreement.{Opening, Agrees}
use Rattle.chunk_plans.specs.Log.{Log}
use Rattle.chunk_plans.specs.Seen.{StoreSeen}
use Rattle.chunk_plans.specs.declared.write.ChunkWrite.{ChunkWrite}
use Rattle.chunk_plans.specs.Writes.{IsReadyWrite}
use Rattle.commits.specs.declared.prepared.Prepared.{Prepared}
use Rattle.commits.specs.declared.refused.CommitRefused.{CommitRefused}
use Rattle.commits.specs.declared.refused.CommitRefused.TheVariants as refused
use Rattle.commits.specs.Keyed.{each_event}
use Rattle.commits.specs.Made.{whole_event}
use Rattle.commits.specs.Planning.{HasFailedFor, IsFirstDamaged, write_arrays}
use Rattle.commits.specs.Prepared.{IsPreparedFor, write_keys}
use Rattle.commits.specs.Ways.{IsWay}
use Rattle.commits.specs.declared.way.Way.{Way}
use Rattle.commits.specs.declared.way.Way.TheVariants.{Whole, ByKeys}

-- the answer of a session
abbrev pub body_of : Result (List ℕ) CommitRefused → Body
body_of (Ok events) = body.committed events
body_of (Err (refused.Conflict key read now)) = body.conflict key read now
body_of (Err (refused.Shrunk key now)) = body.shrunk key now
body_of (Err (refused.NotAtomic keys)) = body.not_atomic keys
body_of (Err (refused.Damaged key cause)) = body.damaged key cause
body_of (Err (refused.StoreFailed event done)) = body.store_failed event done None
body_of (Err refused.Memory) = body.memory

-- the transaction that stands then; after want of memory nobody goes on
abbrev pub Leaves : Transaction → Result (List ℕ) CommitRefused → Option Transaction → Type 0
Leaves t (Ok events) left = left ≡ None
Leaves t (Err (refused.Conflict key read now)) left = left ≡ None
Leaves t (Err (refused.Shrunk key now)) left = left ≡ None
Leaves t (Err (refused.NotAtomic keys)) left = left ≡ None
Leaves t (Err (refused.Damaged key cause)) left = left ≡ Some t
Leaves t (Err (refused.StoreFailed event done)) left = left ≡ left_by (length done) t
Leaves t (Err refused.Memory) left = Unit {0}

-- the answer is a row of the step, or memory was wanting before anything was done
abbrev pub IsAnswer : Fixed → ℕ → History → Transaction → Option Transaction → Result (List ℕ) CommitRefused → List Numbered → Type 0
IsAnswer fixed owner later t left result own = IsCommit fixed owner later t left (body_of result) own ⊎ ((result ≡ Err refused.Memory) × (own ≡ []))

-- and these are the events that it adds
pub record IsCommitRow (fixed : Fixed) (owner : ℕ) (before later : History) (t : Transaction) (result : Result (List ℕ) CommitRefused) : Type 0 where
  pub own : List Event
  pub added : later ≡ before ++ own
  pub left : Option Transaction
  pub row : IsAnswer fixed owner later t left result (numbered (length before + 1) own)
  pub stands : Leaves t result left

-- what is committed is the transaction's: its operations are staged over known arrays, its reads stand by its marks, and prepared bytes
-- that may be used are right
pub record IsCommitted (start : Contents) (log : Log) (t : Transaction) (p : Prepared) : Type 0 where
  pub prepared : IsPreparedFor log.events t p
  pub staged : AllByRecursion IsStaged t.ops
  pub known : AllByRecursion (λ op. HasKnownRefs log.events (viewed op)) t.ops
  pub reads : IsTransaction start log.events t
  pub ready : AllByRecursion (λ (w : ChunkWrite). (k : Known) → known_after log.events w.array ≡ Some k → IsReadyWrite start log k w) p.writes.items

-- behind a commit, a state agrees with each opening by which what is committed is a transaction's
abbrev pub KeepsByTransaction : StoreSeen → Log → Prepared → StoreSeen → Log → Type 0
KeepsByTransaction store log p next later =
    (opening : Opening) → Agrees opening store log → ((start : Contents) → opening.store.contents ≡ Some start → (t : Transaction) × IsCommitted start log t p) → Agrees opening next later

-- the state agrees with an opening by which what is committed is a transaction's
abbrev pub IsStateByTransaction : StoreSeen → Log → Prepared → Type 0
IsStateByTransaction store log p = (opening : Opening) × (Agrees opening store log × ((start : Contents) → opening.store.contents ≡ Some start → (t : Transaction) × IsCommitted start log t p))

-- the events that a commit adds by a way: one, or one for each key
abbrev pub all_of : ℕ → Prepared → Way → List Event
all_of owner p Whole = whole_event owner p ∷ []
all_of owner p ByKeys = each_event owner p.line p.mode p.ops (write_keys p.writes.items)

-- nothing that was read, cut or can't be made together refuses the commit, and these are all the events that it adds then
abbrev pub MayAdd : List (List ℕ) → Log → ℕ → Prepared → List Event → Type 0
MayAdd prefixes log owner p all = (way : Way) × IsWay prefixes log p (Ok way) × (all ≡ all_of owner p way)

-- what is told of the events and the store, whatever the store tells: a refusal for what was read, cut or can't be atomic comes where the log
-- says so, and changes nothing; every other answer comes where none of these does
abbrev pub IsTold : ℕ → StoreSeen → StoreSeen → Log → Log → Prepared → Result (List ℕ) CommitRefused → Type 0
IsTold owner store next log later p (Ok numbers) =
    (all : List Event) × MayAdd store.prefixes log owner p all × (later.events ≡ log.events ++ all) × (numbers ≡ numbers_of (numbered (length log.events + 1) all))
IsTold owner store next log later p (Err (refused.Conflict key read now)) = (next ≡ store) × (later ≡ log) × IsWay store.prefixes log p (Err (refused.Conflict key read now))
IsTold owner store next log later p (Err (refused.Shrunk key now)) = (next ≡ store) × (later ≡ log) × IsWay store.prefixes log p (Err (refused.Shrunk key now))
IsTold owner store next log later p (Err (refused.NotAtomic keys)) = (next ≡ store) × (later ≡ log) × IsWay store.prefixes log p (Err (refused.NotAtomic keys))
IsTold owner store next log later p (Err (refused.Damaged key cause)) =
    ((all : List Event) × MayAdd store.prefixes log owner p all) × (later.events ≡ log.events) × ((step : ℕ) × IsFirstDamaged store log (length log.events + 1) step p.writes.items key cause)
IsTold owner store next log later p (Err (refused.StoreFailed event done)) =
    (all : List Event) × MayAdd store.prefixes log owner p all × (count : ℕ) × (count < length all) × (done ≡ numbers_of (numbered (length log.events + 1) (take count all)))
    × HasFailedFor owner (write_arrays p.writes.items) store next (log.events ++ take count all) later.events event
IsTold owner store next log later p (Err refused.Memory) =
    (later.events ≡ log.events) ⊎ ((all : List Event) × MayAdd store.prefixes log owner p all × (count : ℕ) × (count < length all) × (later.events ≡ log.events ++ take count all))
