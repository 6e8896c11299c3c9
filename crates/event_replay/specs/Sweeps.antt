-- A history that a transcript states, before it is known whether it may have happened, and what reads ask of it.
use Rattle.std.specs.Prelude.{◌≡◌, ◌≤◌, ◌<◌, ◌↔◌, ℕ, ◌+◌, List, [], ◌∷◌, ◌++◌, length, get_or, take, count_by, Bool, None, IsTrue}
use Rattle.std.specs.FinMap as finmap
use Rattle.std.specs.List.{AllByRecursion, list_all}
use Rattle.cells.specs.Numbers.{IsWord}
use Rattle.history.specs.declared.event.Event.{Event}
use Rattle.history.specs.declared.event.Kind.{Kind}
use Rattle.history.specs.declared.event.Kind.TheVariants.{Opened, Done, Resized, Fault}
use Rattle.history.specs.declared.event.Op.{Op}
use Rattle.history.specs.declared.event.Op.TheVariants.{Write, Read}
use Rattle.history.specs.History.{History}
use Rattle.history.specs.Legal.{IsLegal, IsLegalOp, HasTarget, is_opening, viewed}
use Rattle.history.specs.Refs.{HasKnownRefs}
use Rattle.index_transform.specs.Cells.{cells_of, is_finite}
use Rattle.stack_driver.specs.Conditions.{IsView}
use Rattle.stack_driver.specs.Views.{look_of, targets_of}
use Rattle.stack_driver.specs.declared.view.View.{View}
use Rattle.state_laws.specs.Outline.{outline}
use Rattle.version_store.specs.Stores.{IsStoreOf}
use Rattle.version_store.specs.declared.store.VersionStore.{VersionStore}
use Rattle.event_replay.specs.Demands.{IsDemandIn, AreMetFrom}
use Rattle.event_replay.specs.Replays.{IsBehind, HasItsWords}
use Rattle.event_replay.specs.declared.waiting.Waiting.{Waiting}

-- a view of arrays that the history opens, of at most 2 ^ 22 cells, each in its array's shape
pub record IsViewIn (events : History) (v : View) : Type 0 where
  pub valid : IsView v
  pub finite : IsTrue (list_all is_finite (look_of v).dims)
  pub few : length (cells_of (look_of v).dims) ≤ 4194304
  pub refs : HasKnownRefs events v
  pub targets : AllByRecursion (HasTarget events) (targets_of v)

-- a Write has a word of its view's dtype for each cell; which words a Read has isn't known
abbrev pub HasItsWrites : Op → Type 0
HasItsWrites (Write view words) = (length words ≡ length (targets_of view)) × AllByRecursion (IsWord (look_of view).dtype) words
HasItsWrites (Read view words) = Unit {0}

-- an operation of a commit that is stated, wherever in the history the commit stands
pub record IsOpIn (events : History) (op : Op) : Type 0 where
  pub view : IsViewIn events (viewed op)
  pub writes : HasItsWrites op

-- an event that may be stated: a commit is one event for all keys, and no array gets another shape
abbrev pub IsStatedKind : History → Kind → Type 0
IsStatedKind events (Opened info) = Unit {0}
IsStatedKind events (Done line mode ops key) = (key ≡ None) × AllByRecursion (IsOpIn events) ops
IsStatedKind events (Resized a shape) = ⊥
IsStatedKind events (Fault mount) = Unit {0}

-- a history that is stated: its arrays are opened as they may be, and its events may be stated
pub record IsStated (events : History) : Type 0 where
  pub openings : IsLegal finmap.empty (outline events)
  pub each : AllByRecursion (λ (e : Event). IsStatedKind events e.kind) events

-- what a read asks of the history, in a window that ends at one of its moments
pub record IsWaitingIn (events : History) (w : Waiting) : Type 0 where
  pub within : w.upto ≤ length events
  pub demand_in : IsDemandIn events w.demand

-- the window has a moment, and each chunk was as it is asked for at one of its moments
pub record IsMetIn (events : History) (w : Waiting) : Type 0 where
  pub moment : w.from ≤ w.upto
  pub met : AreMetFrom (take w.upto events) w.from w.demand

-- these are the first events of a history that is stated, and so many of them open arrays
pub record IsFront (events before : History) (opened : ℕ) : Type 0 where
  pub stated : IsStated events
  pub later : List Event
  pub whole : events ≡ before ++ later
  pub count : opened ≡ count_by is_opening before

-- they may have happened, this is kept of them, and this event comes next, with this number
pub record IsNext (events before : History) (opened number : ℕ) (e : Event) (s : VersionStore) : Type 0 where
  pub front : IsFront events before opened
  pub legal : IsLegal finmap.empty before
  pub kept : IsStoreOf before s
  pub next : number ≡ length before + 1
  pub rest : List Event
  pub here : events ≡ before ++ e ∷ rest

-- the same of a commit of these operations
pub record IsNextDone (events before : History) (opened number : ℕ) (ops : List Op) (s : VersionStore) : Type 0 where
  pub front : IsFront events before opened
  pub each : AllByRecursion (IsOpIn events) ops
  pub behind : IsBehind before number [] s

-- of one of its operations, behind these
pub record IsNextOp (events before : History) (opened number : ℕ) (done : List Op) (op : Op) (s : VersionStore) : Type 0 where
  pub front : IsFront events before opened
  pub in_history : IsOpIn events op
  pub behind : IsBehind before number done s

-- it may follow, and has the words that are there if it is a Read
pub record IsRightOp (before : History) (done : List Op) (op : Op) : Type 0 where
  pub legal : IsLegalOp before op
  pub has : HasItsWords before done op

-- so many words are one for each cell of a view, and each cell lies in an array that is there
pub record HasCells (before : History) (v : View) (words : ℕ) : Type 0 where
  pub count : words ≡ length (targets_of v)
  pub targets : AllByRecursion (HasTarget before) (targets_of v)

-- what was asked for in each window that ends at a number of events was there
abbrev pub AreMetAt : History → List Waiting → ℕ → Type 0
AreMetAt events waiting number =
    (i : ℕ) (d : Waiting) → i < length waiting → (get_or waiting i d).upto ≡ number → IsMetIn events (get_or waiting i d)

-- the same of each window that ends before it
abbrev pub AreMetBefore : History → List Waiting → ℕ → Type 0
AreMetBefore events waiting number =
    (i : ℕ) (d : Waiting) → i < length waiting → (get_or waiting i d).upto < number → IsMetIn events (get_or waiting i d)

-- the history may have happened, and the answer tells whether all that was asked for was there
pub record IsSwept (events : History) (waiting : List Waiting) (met : Bool) : Type 0 where
  pub legal : IsLegal finmap.empty events
  pub tells : IsTrue met ↔ AllByRecursion (IsMetIn events) waiting
