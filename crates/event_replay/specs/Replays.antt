-- The operations of a commit, put one after another into what is kept of all chunks.
use Rattle.std.specs.Prelude.{◌≡◌, ◌≤◌, ◌↔◌, ℕ, ◌+◌, List, [], length, map, Bool, IsTrue, Some}
use Rattle.std.specs.FinMap as finmap
use Rattle.std.specs.List.{AllByRecursion}
use Rattle.history.specs.declared.event.Op.{Op}
use Rattle.history.specs.declared.event.Op.TheVariants.{Write, Read}
use Rattle.history.specs.Content.{world_after}
use Rattle.history.specs.History.{History}
use Rattle.history.specs.Legal.{IsLegal, IsLegalOp, AreReads, viewed}
use Rattle.history.specs.Writes.{puts_of, read_values}
use Rattle.index_transform.specs.Cells.{cells_of}
use Rattle.stack_driver.specs.Conditions.{IsView}
use Rattle.stack_driver.specs.Views.{look_of}
use Rattle.stack_driver.specs.declared.view.View.{View}
use Rattle.stack_targets.specs.Landings.{Seen, leaves_of}
use Rattle.transaction_cells.specs.Operations.{IsLeafIn, KeepsArrays}
use Rattle.version_store.specs.Asked.{content_with}
use Rattle.version_store.specs.Stores.{IsPartStoreOf}
use Rattle.version_store.specs.declared.store.VersionStore.{VersionStore}

-- leaves of arrays that a history opens, or events behind it; those that it opens stay as they are
pub record AreOpenedOrLater (history : History) (leaves : List Seen) : Type 0 where
  pub later : History
  pub keeps : KeepsArrays history later
  pub each : AllByRecursion (IsLeafIn later) leaves

-- an operation that a commit behind a history may have. Its view has at most 2 ^ 22 cells; a leaf in which no cell lies may be of an array that
-- is opened later
pub record MayFollow (history : History) (op : Op) : Type 0 where
  pub legal : IsLegalOp history op
  pub view : IsView (viewed op)
  pub few : length (cells_of (look_of (viewed op)).dims) ≤ 4194304
  pub leaves : AreOpenedOrLater history (leaves_of (viewed op))

-- the event of this number is the next one of a legal history, and what is kept is that of the history with these operations of it
pub record IsBehind (history : History) (number : ℕ) (done : List Op) (s : VersionStore) : Type 0 where
  pub legal : IsLegal finmap.empty history
  pub next : number ≡ length history + 1
  pub kept : IsPartStoreOf history (puts_of done) s

-- of some history and some operations of its next event it is so, and this may be the next operation
abbrev pub CanGoOn : ℕ → VersionStore → Op → Type 0
CanGoOn number s op = (history : History) × (done : List Op) × IsBehind history number done s × MayFollow history op

-- of some history it is so, and these may be the operations of its next event
abbrev pub CanReplay : ℕ → VersionStore → List Op → Type 0
CanReplay number s ops = (history : History) × IsBehind history number [] s × AllByRecursion (MayFollow history) ops

-- the history's arrays with the operations so far show the words of a view
abbrev pub HasWords : History → List Op → View → List ℕ → Type 0
HasWords history done view words = map Some words ≡ read_values (content_with history (puts_of done)) view

-- so do those of a Read
abbrev pub HasItsWords : History → List Op → Op → Type 0
HasItsWords history done (Write view words) = Unit {0}
HasItsWords history done (Read view words) = HasWords history done view words

-- the answer tells whether each Read has the words that are there behind the operations before it
abbrev pub TellsReads : ℕ → VersionStore → List Op → Bool → Type 0
TellsReads number s ops answer =
    (history : History) → IsBehind history number [] s → AllByRecursion (MayFollow history) ops → IsTrue answer ↔ AreReads (world_after finmap.empty history) [] ops

-- what is kept behind the operations
abbrev pub AreReplayed : ℕ → VersionStore → List Op → VersionStore → Type 0
AreReplayed number old ops new = (history : History) → IsBehind history number [] old → AllByRecursion (MayFollow history) ops → IsBehind history number ops new
