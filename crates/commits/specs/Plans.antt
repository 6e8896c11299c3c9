-- What a commit, or one key of it, leaves of each chunk that it touches.
use Rattle.std.specs.Prelude.{◌≡◌, ◌⊎◌, ℕ, ◌+◌, nat_lt, length, List, [], ◌∷◌, ◌++◌, map, Some, true}
use Rattle.std.specs.Option.{ForSome}
use Rattle.std.specs.List.{AllByRecursion, IsDistinct}
use Rattle.std.specs.Str.{bytes_eq}
use Rattle.kv_face.specs.Store.{Contents}
use Rattle.kv_face.specs.declared.change.Change.{Change}
use Rattle.history.specs.declared.event.Event.{Event}
use Rattle.history.specs.declared.event.Kind.TheVariants.{Done}
use Rattle.history.specs.Arrays.{Known, known_after}
use Rattle.history.specs.Chunks.{Chunk, IsIndexOf, chunk_key}
use Rattle.history.specs.Counting.{is_change}
use Rattle.history.specs.Legal.{IsLegalDone}
use Rattle.history.specs.Store.{IsChunkKept, shape_when_touched}
use Rattle.history.specs.Stored.{with_event}
use Rattle.history.specs.Touch.{touches}
use Rattle.chunk_plans.specs.declared.Commit.{Commit}
use Rattle.chunk_plans.specs.Recorded.{with_numbers, without_all, done_event}
use Rattle.chunk_plans.specs.declared.HeldCells.{HeldCells}
use Rattle.chunk_plans.specs.Agreement.{Opening, Agrees}
use Rattle.chunk_plans.specs.Changing.{with_cells}
use Rattle.chunk_plans.specs.Seen.{StoreSeen}
use Rattle.chunk_plans.specs.Kept.{IsCurrent}
use Rattle.chunk_plans.specs.Leaving.{HasNumber, IsLeftOf}
use Rattle.chunk_plans.specs.Log.{Log}
use Rattle.chunk_plans.specs.declared.plan.Left.{Left}
use Rattle.chunk_plans.specs.declared.plan.Left.TheVariants.{Stored, Held}
use Rattle.chunk_plans.specs.declared.plan.Planned.{Planned}
use Rattle.commits.specs.Keeping.{left_cells}
use Rattle.commits.specs.declared.parts.Parts.{Parts}
use Rattle.chunk_plans.specs.declared.Deed.{Deed}

-- the plan of a chunk that the event touches
pub record IsPlanned (log : Log) (e : Event) (p : Planned) : Type 0 where
  pub chunk : Chunk
  pub array : Known
  pub known : known_after log.events chunk.array ≡ Some array
  pub valid : IsIndexOf array.info chunk.index
  pub touched : touches log.events e chunk ≡ true
  pub of_array : chunk.array ≡ p.array
  pub of_index : chunk.index ≡ p.chunk.now
  pub named : chunk_key array chunk.index ≡ p.key
  pub left : IsLeftOf array chunk p.left
  pub numbered : HasNumber (length log.events + 1) p.left

-- bytes that are left of a chunk are what is kept of it behind the event, and cells are the chunk then
abbrev pub IsRightLeft : Contents → Log → Event → Known → Chunk → Left → Type 0
IsRightLeft start log e k c (Stored bytes kept) =
    IsChunkKept start (with_event log.events e) k c (shape_when_touched (with_event log.events e) c) bytes
    × ForSome kept (λ cells. IsCurrent start (with_event log.events e) k c (record { generation = length log.events + 1; cells = cells }))
IsRightLeft start log e k c (Held a cells) = IsCurrent start (with_event log.events e) k c cells

abbrev pub IsRightPlan : Contents → Log → Event → Planned → Type 0
IsRightPlan start log e p = (is : IsPlanned log e p) → IsRightLeft start log e is.array is.chunk p.left

abbrev pub keys_of : List Planned → List (List ℕ)
keys_of plans = map (λ (p : Planned). p.key) plans

-- one of the plans is of the chunk
abbrev pub HasPlan : Log → Event → Chunk → List Planned → Type 0
HasPlan log e c [] = ⊥
HasPlan log e c (p ∷ plans) = ((is : IsPlanned log e p) × (is.chunk ≡ c)) ⊎ HasPlan log e c plans

-- there is one plan for each chunk that the event touches, and no other
pub record ArePlans (log : Log) (e : Event) (plans : List Planned) : Type 0 where
  pub each : AllByRecursion (IsPlanned log e) plans
  pub all : (c : Chunk) (k : Known) → known_after log.events c.array ≡ Some k → IsIndexOf k.info c.index → touches log.events e c ≡ true → HasPlan log e c plans
  pub distinct : IsDistinct bytes_eq (keys_of plans)

-- the change of a key in a store, where the chunk is stored
abbrev pub change_of : Left → List ℕ → List Change → List Change
change_of (Stored bytes kept) key changes = record { key = key; bytes = bytes } ∷ changes
change_of (Held a cells) key changes = changes

abbrev pub changes_of : List Planned → List Change
changes_of [] = []
changes_of (p ∷ plans) = change_of p.left p.key (changes_of plans)

-- the cells of a local array
abbrev pub held_of : Left → List HeldCells → List HeldCells
held_of (Stored bytes kept) cells = cells
held_of (Held a snapshot) cells = record { array = a; cells = snapshot } ∷ cells

abbrev pub cells_of : List Planned → List HeldCells
cells_of [] = []
cells_of (p ∷ plans) = held_of p.left (cells_of plans)

-- the log behind a commit by plans
abbrev pub committed_by : Log → ℕ → Commit → List Planned → Log
committed_by log owner commit plans = record {
  events = log.events ++ done_event owner commit ∷ [];
  generations = with_numbers (length log.events + 1) log.generations (keys_of plans);
  cache = record log.cache { entries = without_all (keys_of plans) log.cache.entries };
  locals = with_cells log.locals (cells_of plans);
}

-- where the store told its contents at the start, the commit may follow, each plan is right, and there are changes exactly where the
-- event counts as one
pub record AreRightBy (start : Contents) (log : Log) (owner : ℕ) (commit : Commit) (plans : List Planned) : Type 0 where
  pub legal : IsLegalDone start log.events commit.ops
  pub each : AllByRecursion (IsRightPlan start log (done_event owner commit)) plans
  pub counted : is_change start log.events (Done commit.line commit.mode commit.ops commit.key) ≡ nat_lt 0 (length (changes_of plans))

-- the state agrees with an opening by which the plans are right
abbrev pub IsStateByPlans : StoreSeen → Log → ℕ → Commit → List Planned → Type 0
IsStateByPlans store log owner commit plans =
    (opening : Opening) × (Agrees opening store log × ((start : Contents) → opening.store.contents ≡ Some start → AreRightBy start log owner commit plans))

-- behind a commit, a state agrees with each opening by which the plans were right
abbrev pub KeepsByPlans : StoreSeen → Log → ℕ → Commit → List Planned → StoreSeen → Log → Type 0
KeepsByPlans store log owner commit plans next later =
    (opening : Opening) → Agrees opening store log → ((start : Contents) → opening.store.contents ≡ Some start → AreRightBy start log owner commit plans) → Agrees opening next later

-- the parts of plans
pub record ArePartsOf (plans : List Planned) (parts : Parts) : Type 0 where
  pub changes : parts.changes.items ≡ changes_of plans
  pub keys : parts.keys.items ≡ keys_of plans
  pub cells : parts.cells.items ≡ cells_of plans
  pub left : parts.left.items ≡ left_cells plans

-- a commit by its parts
abbrev pub deed_of : List ℕ → Commit → Parts → Deed
deed_of mount commit parts = record { mount = mount; commit = commit; keys = parts.keys; cells = parts.cells }
