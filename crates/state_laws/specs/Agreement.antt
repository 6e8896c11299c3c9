-- How a state agrees with what was read off when it began.
use Rattle.std.specs.Prelude.{◌≡◌, ◌<◌, ◌≤◌, ◌+◌, ℕ, List, ◌∷◌, ◌++◌, true, false, Bool, Option, Some, length, count_by, All}
use Rattle.std.specs.FinMap as finmap
use Rattle.chunk_cache.specs.Snapshot.{SnapshotCells}
use Rattle.kv_face.specs.Store.{Contents, takes}
use Rattle.history.specs.declared.event.Kind.{Kind}
use Rattle.history.specs.declared.event.Kind.TheVariants.{Opened, Done, Resized, Fault}
use Rattle.history.specs.declared.event.Event.{Event}
use Rattle.history.specs.Arrays.{Known, known_after, is_local}
use Rattle.history.specs.Chunks.{IsIndexOf}
use Rattle.history.specs.Counting.{IsCounted}
use Rattle.history.specs.Generations.{IsGenerationTable}
use Rattle.history.specs.Legal.{IsLegal, is_opening}
use Rattle.history.specs.ReadRows.{mount_of}
use Rattle.history.specs.Store.{RepresentsHistory}
use Rattle.history.specs.Touch.{generation_of}
use Rattle.state_laws.specs.Seen.{StoreSeen, IsFrame}
use Rattle.state_laws.specs.Log.{Log, cells_held}
use Rattle.state_laws.specs.Outline.{outline}
use Rattle.state_laws.specs.Kept.{AreCellsOf, IsCurrent, IsKept, IsKeptNow}

-- what is read off a state when it begins: its store, and the most cells that its cache keeps
pub record Opening : Type 0 where
  pub store : StoreSeen
  pub limit : ℕ

abbrev pub fails : Kind → Bool
fails (Opened info) = false
fails (Done line mode ops key) = false
fails (Resized a shape) = false
fails (Fault mount) = true

abbrev pub is_fault : Event → Bool
is_fault e = fails e.kind

-- the store takes every key below the mount
abbrev pub TakesMount : Option (List (List ℕ)) → List ℕ → Type 0
TakesMount names mount = (rest : List ℕ) → takes names (mount ++ 47 ∷ rest) ≡ true

-- the run's one chunk of a local array, with its generation
pub record IsHeld (log : Log) (a : ℕ) (k : Known) : Type 0 where
  pub snapshot : SnapshotCells
  pub held : cells_held log a ≡ Some snapshot
  pub cells : AreCellsOf k snapshot
  pub generation : (index : List ℕ) → IsIndexOf k.info index → snapshot.generation ≡ generation_of log.events (record { array = a; index = index })

-- which is as it is now
abbrev pub IsHeldNow : Contents → Log → ℕ → Known → Type 0
IsHeldNow start log a k = (held : IsHeld log a k) × ((index : List ℕ) → IsIndexOf k.info index → IsCurrent start log.events k (record { array = a; index = index }) held.snapshot)

-- what holds where the store told its contents at the start
pub record IsTrueTo (start : Contents) (opening : Opening) (store : StoreSeen) (log : Log) : Type 0 where
  -- each event may follow those before it
  pub legal : IsLegal start log.events
  -- the store still tells its contents, which are what the history says
  pub contents : Contents
  pub told : store.contents ≡ Some contents
  pub represents : RepresentsHistory contents start log.events
  -- its changes are counted
  pub counted : IsCounted start opening.store.changes store.changes log.events
  -- and every chunk that is kept is as it is now
  pub kept : All (IsKeptNow start log.events) log.cache.entries
  pub held : (a : ℕ) (k : Known) → known_after log.events a ≡ Some k → is_local k.info.home ≡ true → IsHeldNow start log a k

-- a state, of which this is the store and this the log, agrees with its opening
pub record Agrees (opening : Opening) (store : StoreSeen) (log : Log) : Type 0 where
  pub frame : IsFrame opening.store store
  -- faults of the history are no more than those of the store
  pub faults : opening.store.faults + count_by is_fault log.events ≤ store.faults
  -- and where the store's count rose, the history tells of a fault
  pub told : opening.store.faults < store.faults → 0 < count_by is_fault log.events
  pub limit : log.cache.limit ≡ opening.limit
  pub count : length log.locals ≡ count_by is_opening log.events
  -- arrays were opened, and got shapes, as a history may
  pub outline : IsLegal finmap.empty (outline log.events)
  -- each generation is that of the history
  pub generations : IsGenerationTable log.events log.generations
  pub mounts : (a : ℕ) (k : Known) (mount : List ℕ) → known_after log.events a ≡ Some k → mount_of k.info.home ≡ Some mount → TakesMount store.names mount
  -- what is kept of chunks has their dtypes, shapes and generations
  pub kept : All (IsKept log.events) log.cache.entries
  pub held : (a : ℕ) (k : Known) → known_after log.events a ≡ Some k → is_local k.info.home ≡ true → IsHeld log a k
  -- and where the store told its contents at the start, all is as the history says
  pub holds : (start : Contents) → opening.store.contents ≡ Some start → IsTrueTo start opening store log

-- it agrees with some opening
abbrev pub IsState : StoreSeen → Log → Type 0
IsState store log = (opening : Opening) × Agrees opening store log

-- whatever it agreed with before a call, it agrees with behind it
abbrev pub KeepsAgreement : StoreSeen → Log → StoreSeen → Log → Type 0
KeepsAgreement store log next_store next_log = (opening : Opening) → Agrees opening store log → Agrees opening next_store next_log
