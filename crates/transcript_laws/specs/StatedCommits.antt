-- What holds of each commit that lines state, whether it is legal or not.
use Rattle.std.specs.Prelude.{◌≡◌, ◌≤◌, ℕ, List, length, None, IsTrue}
use Rattle.std.specs.List.{AllByRecursion, list_all}
use Rattle.std.specs.FinMap as finmap
use Rattle.stack_driver.specs.Cells.{cells_of, is_finite}
use Rattle.stack_driver.specs.Conditions.{IsView}
use Rattle.stack_driver.specs.Views.{look_of, targets_of}
use Rattle.history.specs.declared.event.Op.{Op}
use Rattle.history.specs.declared.event.Op.TheVariants.{Write, Read}
use Rattle.history.specs.declared.event.Kind.{Kind}
use Rattle.history.specs.declared.event.Kind.TheVariants.{Opened, Done, Resized, Fault}
use Rattle.history.specs.declared.event.Event.{Event}
use Rattle.history.specs.History.{History}
use Rattle.history.specs.Legal.{IsLegal, HasTarget, AreWritten, viewed}
use Rattle.history.specs.Refs.{HasKnownRefs}
use Rattle.state_laws.specs.Outline.{outline}
use Rattle.transcript_laws.specs.Transcript.{Told, AreToldOf, lines_of_scripts}
use Rattle.transcript_laws.specs.Numbers.{AreNumbered, numbers_of, told_of}
use Rattle.transcript_laws.specs.Claimed.{AreStated}
use Rattle.transcript_laws.specs.Standings.{first_standing}
use Rattle.transcript_laws.specs.Unchecked.{AreChecked}

-- a Write has as many words as its view has cells; a Read may show any number of them
abbrev pub IsCounted : Op → Type 0
IsCounted (Write view words) = length words ≡ length (targets_of view)
IsCounted (Read view words) = Unit {0}

-- an operation on arrays of the history: its view keeps the rules and has at most 2 ^ 22 cells, each in the present
-- shape of an array of the history, and a Write has a word of the view's dtype for each. An array may be a later one
-- than the commit
pub record IsSoundOp (history : History) (op : Op) : Type 0 where
  pub view : IsView (viewed op)
  pub finite : IsTrue (list_all is_finite (look_of (viewed op)).dims)
  pub few : length (cells_of (look_of (viewed op)).dims) ≤ 4194304
  pub refs : HasKnownRefs history (viewed op)
  pub targets : AllByRecursion (HasTarget history) (targets_of (viewed op))
  pub count : IsCounted op
  pub words : AreWritten op

-- a commit has no key, and each of its operations is sound; no array gets another shape
abbrev pub IsSoundKind : History → Kind → Type 0
IsSoundKind history (Opened info) = Unit {0}
IsSoundKind history (Done line mode ops key) = (key ≡ None) × AllByRecursion (IsSoundOp history) ops
IsSoundKind history (Resized a shape) = ⊥
IsSoundKind history (Fault mount) = Unit {0}

abbrev pub IsSoundEvent : History → Event → Type 0
IsSoundEvent history e = IsSoundKind history e.kind

-- each event that lines of checked scripts state is sound, where arrays are opened as they may be
abbrev pub StatedCommitsAreSound : Type 0
StatedCommitsAreSound =
    (scripts : List (List ℕ)) (told : List Told) (history : History) → AreToldOf (lines_of_scripts 0 scripts) told
    → AreChecked scripts → AreNumbered told → ((session : ℕ) → AreStated history first_standing (told_of session told))
    → length history ≡ length (numbers_of told) → IsLegal finmap.empty (outline history)
    → AllByRecursion (IsSoundEvent history) history
