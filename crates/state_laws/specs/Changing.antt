-- An event that changes chunks, and what stands behind it.
use Rattle.std.specs.Prelude.{◌<◌, ◌≡◌, ◌⊎◌, ℕ, ◌+◌, List, [], ◌∷◌, ◌++◌, length, nat_lt, Option, Some, true, false, All, set}
use Rattle.std.specs.List.{IsDistinct}
use Rattle.std.specs.Str.{bytes_eq}
use Rattle.chunk_cache.specs.Snapshot.{SnapshotCells}
use Rattle.kv_face.specs.Store.{Contents, takes, keys_of, are_together}
use Rattle.kv_face.specs.declared.change.Change.{Change}
use Rattle.history.specs.declared.event.Event.{Event}
use Rattle.history.specs.declared.event.Kind.TheVariants.{Done}
use Rattle.history.specs.History.{History}
use Rattle.history.specs.Arrays.{Known, known_after, form_of, is_local}
use Rattle.history.specs.Chunks.{Chunk, IsIndexOf}
use Rattle.history.specs.Counting.{is_change}
use Rattle.history.specs.Generations.{IsKeyTouched}
use Rattle.history.specs.Legal.{IsLegalDone, MayTake}
use Rattle.history.specs.Own.{resized_event}
use Rattle.history.specs.Metadata.{with_shape}
use Rattle.history.specs.Stored.{AreChangesOf}
use Rattle.history.specs.Touch.{touches}
use Rattle.state_laws.specs.Recorded.{with_numbers, without_all, done_event}
use Rattle.state_laws.specs.declared.deed.Deed.{Deed}
use Rattle.state_laws.specs.declared.deed.HeldCells.{HeldCells}
use Rattle.state_laws.specs.declared.deed.NewShape.{NewShape}
use Rattle.state_laws.specs.Seen.{StoreSeen}
use Rattle.state_laws.specs.Kept.{AreCellsOf, IsCurrent}
use Rattle.state_laws.specs.Log.{Log, cells_held}
use Rattle.state_laws.specs.Agreement.{Opening, Agrees}

-- one of the keys is this one
abbrev pub IsOneOf : List (List ℕ) → List ℕ → Type 0
IsOneOf [] key = ⊥
IsOneOf (k ∷ keys) key = (k ≡ key) ⊎ IsOneOf keys key

-- the cells that the run holds once some arrays got others
abbrev pub with_cells : List (Option SnapshotCells) → List HeldCells → List (Option SnapshotCells)
with_cells locals [] = locals
with_cells locals (c ∷ cs) = with_cells (set locals c.array (Some c.cells)) cs

-- the log behind a commit, or one key of it: one event more, whose number is the generation of the keys; what was kept under them is
-- gone; local arrays have their new cells
abbrev pub committed : Log → ℕ → Deed → Log
committed log owner deed = record {
  events = log.events ++ done_event owner deed.commit ∷ [];
  generations = with_numbers (length log.events + 1) log.generations deed.keys.items;
  cache = record log.cache { entries = without_all deed.keys.items log.cache.entries };
  locals = with_cells log.locals deed.cells.items;
}

-- these are exactly the keys of the chunks that the event touches
pub record AreTouched (events : History) (e : Event) (keys : List (List ℕ)) : Type 0 where
  pub all : (c : Chunk) (key : List ℕ) → IsKeyTouched events e c key → IsOneOf keys key
  pub only : (key : List ℕ) → IsOneOf keys key → (c : Chunk) × IsKeyTouched events e c key

-- a local array that the event doesn't touch keeps its cells
pub record IsHeldStill (log later : Log) (e : Event) (a : ℕ) (k : Known) : Type 0 where
  pub same : cells_held later a ≡ cells_held log a
  pub untouched : (index : List ℕ) → IsIndexOf k.info index → touches log.events e (record { array = a; index = index }) ≡ false

-- one that it touches has others, of its number
pub record IsHeldAnew (log later : Log) (e : Event) (a : ℕ) (k : Known) : Type 0 where
  pub snapshot : SnapshotCells
  pub held : cells_held later a ≡ Some snapshot
  pub cells : AreCellsOf k snapshot
  pub generation : snapshot.generation ≡ length log.events + 1
  pub touched : (index : List ℕ) → IsIndexOf k.info index → touches log.events e (record { array = a; index = index }) ≡ true

-- a commit, or one key of it, that may be made: its keys are those of the chunks that it touches, and local arrays keep their cells or
-- have others
pub record IsDeed (log : Log) (owner : ℕ) (deed : Deed) : Type 0 where
  pub touched : AreTouched log.events (done_event owner deed.commit) deed.keys.items
  pub held : (a : ℕ) (k : Known) → known_after log.events a ≡ Some k → is_local k.info.home ≡ true
      → IsHeldStill log (committed log owner deed) (done_event owner deed.commit) a k ⊎ IsHeldAnew log (committed log owner deed) (done_event owner deed.commit) a k

-- by what the store told at the start it is right: the event may follow, the changes are its own, and the cells that local arrays get
-- are their chunks then
pub record IsRightBy (start : Contents) (log : Log) (owner : ℕ) (deed : Deed) (changes : List Change) : Type 0 where
  pub legal : IsLegalDone start log.events deed.commit.ops
  pub changes_are : AreChangesOf start log.events (done_event owner deed.commit) changes
  pub counted : is_change start log.events (Done deed.commit.line deed.commit.mode deed.commit.ops deed.commit.key) ≡ nat_lt 0 (length changes)
  pub held : (a : ℕ) (k : Known) → known_after log.events a ≡ Some k → is_local k.info.home ≡ true → (anew : IsHeldAnew log (committed log owner deed) (done_event owner deed.commit) a k) → (index : List ℕ) → IsIndexOf k.info index
      → IsCurrent start (log.events ++ done_event owner deed.commit ∷ []) k (record { array = a; index = index }) anew.snapshot

-- so it is where the store told its contents at the start
abbrev pub IsRightDeed : Opening → Log → ℕ → Deed → List Change → Type 0
IsRightDeed opening log owner deed changes = (start : Contents) → opening.store.contents ≡ Some start → IsRightBy start log owner deed changes

-- behind a commit, a state agrees with each opening by which it was right
abbrev pub KeepsByDeed : StoreSeen → Log → ℕ → Deed → List Change → StoreSeen → Log → Type 0
KeepsByDeed store log owner deed changes next later = (opening : Opening) → Agrees opening store log → IsRightDeed opening log owner deed changes → Agrees opening next later

-- the log behind a new shape: one event more, whose number is the generation of the keys; what was kept under them is gone
abbrev pub resized : Log → ℕ → NewShape → Log
resized log owner new = record {
  events = log.events ++ resized_event owner new.array new.shape ∷ [];
  generations = with_numbers (length log.events + 1) log.generations new.keys.items;
  cache = record log.cache { entries = without_all new.keys.items log.cache.entries };
  locals = log.locals;
}

-- a stored array may get a shape by these changes, of which its metadata is one
pub record IsNewShape (log : Log) (owner : ℕ) (new : NewShape) (changes : List Change) : Type 0 where
  pub array : Known
  pub known : known_after log.events new.array ≡ Some array
  pub may : MayTake array new.shape
  pub form : new.form ≡ with_shape (form_of array.info.home) new.shape
  pub touched : AreTouched log.events (resized_event owner new.array new.shape) new.keys.items
  pub some : 0 < length changes

-- where the store told its contents at the start, the changes are those of the event
abbrev pub IsRightShape : Opening → Log → ℕ → NewShape → List Change → Type 0
IsRightShape opening log owner new changes = (start : Contents) → opening.store.contents ≡ Some start → AreChangesOf start log.events (resized_event owner new.array new.shape) changes

-- behind a new shape, a state agrees with each opening by which it was right
abbrev pub KeepsByShape : StoreSeen → Log → ℕ → NewShape → List Change → StoreSeen → Log → Type 0
KeepsByShape store log owner new changes next later = (opening : Opening) → Agrees opening store log → IsRightShape opening log owner new changes → Agrees opening next later

-- changes that the store makes together
pub record AreMade (store : StoreSeen) (changes : List Change) : Type 0 where
  pub taken : All (λ (c : Change). takes store.names c.key ≡ true) changes
  pub distinct : IsDistinct bytes_eq (keys_of changes)
  pub together : are_together store.prefixes changes 0 ≡ true
