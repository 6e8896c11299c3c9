-- The arrays that a session's names and operations are of.
use Rattle.std.specs.Prelude.{◌≡◌, List, Option, Some, None, Ok}
use Rattle.std.specs.List.{AllByRecursion}
use Rattle.stack_driver.specs.References.{Reference}
use Rattle.stack_driver.specs.declared.view.View.{View}
use Rattle.stack_driver.specs.Conditions.{IsView}
use Rattle.history.specs.declared.event.Kind.{Kind}
use Rattle.history.specs.declared.event.Kind.TheVariants.{Opened, Done, Resized, Fault}
use Rattle.history.specs.History.{History, after}
use Rattle.history.specs.Answers.{Text}
use Rattle.history.specs.Commit.{Transaction}
use Rattle.history.specs.Legal.{viewed}
use Rattle.history.specs.Lines.{Change, Build, Join, Line, refused, opening, viewing, joining, reading, writing, beginning, committing, aborting, resizing, resolving}
use Rattle.history.specs.Refs.{IsKnownRef, HasKnownRefs}
use Rattle.history.specs.Sessions.{Names}

-- each name is bound to a view of known arrays
abbrev pub AreKnownNames : History → Names → Type 0
AreKnownNames events names = (name : Text) (view : View) → names name ≡ Some view → HasKnownRefs events view

-- each operation of a transaction is of a view of known arrays, where there is one
abbrev pub AreKnownOps : History → Option Transaction → Type 0
AreKnownOps events None = Unit {0}
AreKnownOps events (Some t) = AllByRecursion (λ op. HasKnownRefs events (viewed op)) t.ops

-- what a change makes of a view of known arrays is one
abbrev pub IsChangeWithin : Change → Type 0
IsChangeWithin change = (events : History) (view made : View) → HasKnownRefs events view → change view ≡ Ok made → HasKnownRefs events made

-- what is built over known arrays is a view of such
abbrev pub IsBuildWithin : Build → Type 0
IsBuildWithin build = (events : History) (refs : List Reference) (view : View) → AllByRecursion (IsKnownRef events) refs → build refs ≡ Ok view → HasKnownRefs events view

-- so is what views of known arrays are joined to
abbrev pub IsJoinWithin : Join → Type 0
IsJoinWithin join = (events : History) (views : List View) (view : View) → AllByRecursion (HasKnownRefs events) views → join views ≡ Ok view → HasKnownRefs events view

-- no part of a line brings in an array that it wasn't given
abbrev pub IsLineWithin : Line → Type 0
IsLineWithin (refused error) = Unit {0}
IsLineWithin (opening name leaves build) = IsBuildWithin build
IsLineWithin (viewing name of changes) = AllByRecursion IsChangeWithin changes
IsLineWithin (joining name of join changes) = IsJoinWithin join × AllByRecursion IsChangeWithin changes
IsLineWithin (reading name changes down) = AllByRecursion IsChangeWithin changes
IsLineWithin (writing name changes values) = AllByRecursion IsChangeWithin changes
IsLineWithin (beginning mode) = Unit {0}
IsLineWithin committing = Unit {0}
IsLineWithin aborting = Unit {0}
IsLineWithin (resizing name shape) = Unit {0}
IsLineWithin (resolving name) = Unit {0}

-- nor of a line of a script that isn't blank
abbrev pub IsWithin : Option Line → Type 0
IsWithin None = Unit {0}
IsWithin (Some line) = IsLineWithin line

-- what a commit writes or reads, it does through views of known arrays
abbrev pub IsCommitKnown : History → Kind → Type 0
IsCommitKnown before (Opened info) = Unit {0}
IsCommitKnown before (Done line mode ops key) = AllByRecursion (λ op. IsView (viewed op) × HasKnownRefs before (viewed op)) ops
IsCommitKnown before (Resized a shape) = Unit {0}
IsCommitKnown before (Fault mount) = Unit {0}

-- so does each commit of the history
abbrev pub AreCommitsKnown : History → Type 0
AreCommitsKnown events = after (λ before e known. known × IsCommitKnown before e.kind) (Unit {0}) events
