-- The operations of a transaction before they are committed.
use Rattle.std.specs.Prelude.{◌≡◌, ◌≤◌, ℕ, List, [], length, true, Option, Some, None, Result, Ok, Err, IsTrue}
use Rattle.kv_face.specs.Store.{Contents}
use Rattle.std.specs.List.{AllByRecursion, list_all}
use Rattle.cells.specs.Numbers.{IsWord}
use Rattle.cells.specs.Places.{cell_count}
use Rattle.cells.specs.declared.dtype.Dtype.{Dtype}
use Rattle.stack_driver.specs.Cells.{is_finite}
use Rattle.stack_driver.specs.Targets.{Cell, Target}
use Rattle.stack_driver.specs.Views.{targets_of, look_of}
use Rattle.stack_driver.specs.declared.error.TargetError.{TargetError}
use Rattle.history.specs.declared.event.Op.{Op}
use Rattle.history.specs.History.{History}
use Rattle.history.specs.Writes.{puts_of}
use Rattle.history.specs.Reads.{Marks, mark_of, marked_world, is_put}
use Rattle.history.specs.Commit.{Transaction}
use Rattle.history.specs.Lines.{Values, Line, refused, opening, viewing, joining, reading, writing, beginning, committing, aborting, resizing, resolving}
use Rattle.history.specs.Legal.{viewed, words_of, AreWritten, AreReads, is_present}

-- the cell has a target
abbrev pub IsFound : Result Target TargetError → Type 0
IsFound (Ok t) = Unit {0}
IsFound (Err e) = ⊥

-- the view has finitely many cells, each with a target, and there is one word for each
pub record IsStaged (op : Op) : Type 0 where
  pub finite : IsTrue (list_all is_finite (look_of (viewed op)).dims)
  pub targets : AllByRecursion IsFound (targets_of (viewed op))
  pub count : length (words_of op) ≡ length (targets_of (viewed op))
  pub words : AreWritten op

-- all operations of a transaction are staged, where there is one
abbrev pub AreStaged : Option Transaction → Type 0
AreStaged None = Unit {0}
AreStaged (Some t) = AllByRecursion IsStaged t.ops

-- what values give fits: a word of the dtype for each cell of the shape
abbrev pub AreFitting : Values → Type 0
AreFitting values = (dtype : Dtype) (shape words : List ℕ) → values dtype shape ≡ Ok words → (length words ≡ cell_count shape) × AllByRecursion (IsWord dtype) words

-- the values of a write fit
abbrev pub HasFittingValues : Line → Type 0
HasFittingValues (refused error) = Unit {0}
HasFittingValues (opening name leaves build) = Unit {0}
HasFittingValues (viewing name of changes) = Unit {0}
HasFittingValues (joining name of join changes) = Unit {0}
HasFittingValues (reading name changes down) = Unit {0}
HasFittingValues (writing name changes values) = AreFitting values
HasFittingValues (beginning mode) = Unit {0}
HasFittingValues committing = Unit {0}
HasFittingValues aborting = Unit {0}
HasFittingValues (resizing name shape) = Unit {0}
HasFittingValues (resolving name) = Unit {0}

-- so they do in each line that isn't blank
abbrev pub FitsInLine : Option Line → Type 0
FitsInLine None = Unit {0}
FitsInLine (Some line) = HasFittingValues line

-- each cell that the operations write lies in the present shape of its array
abbrev pub AreInShapes : History → List Op → Type 0
AreInShapes events ops = (x : Cell) → is_put (puts_of ops) x ≡ true → is_present events x ≡ true

-- no mark lies behind a number of events
abbrev pub AreWithin : ℕ → Marks → Type 0
AreWithin n marks = AllByRecursion (λ m. m.1 ≤ n) marks

-- what a transaction has read stands by its marks
pub record IsTransaction (start : Contents) (events : History) (t : Transaction) : Type 0 where
  pub seen : AreReads (marked_world start events (mark_of t.marks)) [] t.ops
  pub within : AreWithin (length events) t.marks

-- the same of a transaction, where there is one
abbrev pub HasTransaction : Contents → History → Option Transaction → Type 0
HasTransaction start events None = Unit {0}
HasTransaction start events (Some t) = IsTransaction start events t
