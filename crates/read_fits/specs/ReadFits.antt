-- Which answers a read may have: its words, and what they ask of the history.
use Rattle.std.specs.Prelude.{◌≡◌, ◌≤◌, ◌↔◌, ℕ, All, List, length, take, codes, Option, Some, None, Ok}
use Rattle.std.specs.FinMap as finmap
use Rattle.std.specs.List.{AllByRecursion}
use Rattle.serde_json.specs.Data.{Data}
use Rattle.serde_json.specs.Find.{get}
use Rattle.cells.specs.Numbers.{IsWord}
use Rattle.cells.specs.Places.{cell_count}
use Rattle.index_transform.specs.Cells.{cells_of, count_answer}
use Rattle.stack_driver.specs.Views.{look_of, targets_of}
use Rattle.stack_driver.specs.declared.view.View.{View}
use Rattle.stack_targets.specs.Landings.{leaves_of}
use Rattle.line_fits.specs.Text.{answer_text}
use Rattle.line_fits.specs.Answers.{answer_data}
use Rattle.line_fits.specs.AnswerLines.{IsAnswerText}
use Rattle.history.specs.Acts.{reads}
use Rattle.history.specs.Commit.{Transaction}
use Rattle.history.specs.History.{History}
use Rattle.history.specs.Legal.{IsLegal, HasTarget}
use Rattle.history.specs.Sessions.{reader}
use Rattle.history.specs.Viewing.{shape_of, values_body}
use Rattle.transaction_cells.specs.Operations.{AreStaged, IsLeafIn}
use Rattle.transaction_cells.specs.Staging.{StagedChunk}
use Rattle.line_fits.specs.Fitting.{IsFetched, IsSeen, printed_at}
use Rattle.line_fits.specs.ToldNumbers.{failed_in, single}
use Rattle.line_fits.specs.Windows.{Window}
use Rattle.line_fits.specs.Sweeps.{IsMetIn, IsOpIn, IsStated, IsViewIn, IsWaitingIn}
use Rattle.line_fits.specs.Fits.{IsAnsweredBy}
use Rattle.read_fits.specs.declared.reads.ReadFit.{ReadFit}
use Rattle.read_fits.specs.declared.reads.ReadFit.TheVariants.{Unfit, IfFetched, IfMet}
use Rattle.read_fits.specs.declared.spot.Spot.{Spot}

-- the window of a line
abbrev pub window_at : Spot → Window
window_at spot = record { from = spot.from; upto = spot.upto }

-- a read through a view, at a line of a session of a stated history that may have happened: the view's arrays are
-- there when the window ends, and of the transaction's operations, or of none outside of one, this is staged
pub record IsReadOf (history : History) (spot : Spot) (t : Option Transaction) (view : View)
    (staged : List StagedChunk) : Type 0 where
  pub legal : IsLegal finmap.empty history
  pub stated : IsStated history
  pub within : spot.upto ≤ length history
  pub in_history : IsViewIn history view
  pub count : count_answer (look_of view).dims ≡ Ok (length (cells_of (look_of view).dims))
  pub leaves : AllByRecursion (IsLeafIn (take spot.upto history)) (leaves_of view)
  pub targets : AllByRecursion (HasTarget (take spot.upto history)) (targets_of view)
  pub each : AllByRecursion (IsOpIn history) (reader spot.line t).ops
  pub own : AreStaged (take spot.upto history) (reader spot.line t).ops staged

-- a word of the view's dtype for each of its cells
abbrev pub HasWordsOf : View → List ℕ → Type 0
HasWordsOf view words = (length words ≡ cell_count (shape_of view)) × All (IsWord (look_of view).dtype) words

-- the text is that of an answer with these words, and reads as its object
abbrev pub IsTextOf : View → ℕ → List ℕ → Data → List ℕ → Type 0
IsTextOf view line text d words =
    (text ≡ answer_text (printed_at line (values_body view None words)))
    × (d ≡ answer_data (printed_at line (values_body view None words)))

-- the text is that of an answer with the words, if they are handed on, and else it isn't
abbrev pub IsTextOrNot : View → ℕ → List ℕ → List ℕ → Option (List ℕ) → Type 0
IsTextOrNot view line text words None = (d : Data) → IsAnswerText line text d → ¬ IsTextOf view line text d words
IsTextOrNot view line text words (Some given) =
    (given ≡ words) × ((d : Data) → IsAnswerText line text d → IsTextOf view line text d words)

-- the text is that of an answer whose values are these
pub record IsToldBy (line : ℕ) (text : List ℕ) (values d : Data) : Type 0 where
  pub line_is : IsAnswerText line text d
  pub values_are : get (codes "values") d ≡ Some values

-- the words that an answer's text may tell of a view, if there are any
abbrev pub AreToldWords : View → ℕ → List ℕ → Data → Option (List ℕ) → Type 0
AreToldWords view line text values None =
    (d : Data) → IsToldBy line text values d → (words : List ℕ) → HasWordsOf view words
    → ¬ IsTextOf view line text d words
AreToldWords view line text values (Some given) =
    (length given ≡ length (cells_of (look_of view).dims))
    × ((d : Data) → IsToldBy line text values d → IsTextOf view line text d given
    × ((words : List ℕ) → HasWordsOf view words → IsTextOf view line text d words → words ≡ given))

-- the words are seen in the window: never, or where what is waited for is met
abbrev pub IsSeenFit : History → Window → Transaction → View → List ℕ → ReadFit → Type 0
IsSeenFit history w t view words Unfit = ¬ IsSeen history w t view words
IsSeenFit history w t view words IfFetched = ⊥
IsSeenFit history w t view words (IfMet waiting) =
    IsWaitingIn history waiting × (IsSeen history w t view words ↔ IsMetIn history waiting)

-- a text is an answer that a read may have: never, where the read calls the store, or where what is waited for is met
abbrev pub IsReadFit : History → ℕ → Window → Option Transaction → ℕ → View → List ℕ → Data → ReadFit → Type 0
IsReadFit history owner w t line view text d Unfit = ¬ IsAnsweredBy history owner w t line (Ok (reads view None)) text d
IsReadFit history owner w t line view text d IfFetched =
    IsAnsweredBy history owner w t line (Ok (reads view None)) text d ↔ IsFetched history (reader line t) view
IsReadFit history owner w t line view text d (IfMet waiting) =
    IsWaitingIn history waiting
    × (IsAnsweredBy history owner w t line (Ok (reads view None)) text d ↔ IsMetIn history waiting)

-- so it is of each read of the view at the line that the session may have, whose answer has these values
abbrev pub AreFitValues : Spot → View → List StagedChunk → List ℕ → Data → ReadFit → Type 0
AreFitValues spot view staged text values fit =
    (history : History) (owner : ℕ) (t : Option Transaction) (d : Data) → IsReadOf history spot t view staged
    → IsToldBy spot.line text values d
    → IsReadFit history owner (window_at spot) t spot.line view text d fit

-- and of each whose answer has no values
abbrev pub AreFitFailures : Spot → List ℕ → ReadFit → Type 0
AreFitFailures spot text fit =
    (history : History) (owner : ℕ) (t : Option Transaction) (view : View) (d : Data) → IsAnswerText spot.line text d
    → failed_in d ≡ single spot.failed → get (codes "values") d ≡ None
    → IsReadFit history owner (window_at spot) t spot.line view text d fit

-- a text is an answer that the read may have, whoever reads
abbrev pub AreReadFits : Spot → View → List StagedChunk → List ℕ → Data → ReadFit → Type 0
AreReadFits spot view staged text d fit =
    (history : History) (owner : ℕ) (t : Option Transaction) → IsReadOf history spot t view staged
    → IsAnswerText spot.line text d → failed_in d ≡ single spot.failed
    → IsReadFit history owner (window_at spot) t spot.line view text d fit

-- so it is of each answer with these values, or without any
abbrev pub AreFitsOf : Spot → View → List StagedChunk → List ℕ → Option Data → ReadFit → Type 0
AreFitsOf spot view staged text values fit =
    (d : Data) → get (codes "values") d ≡ values → AreReadFits spot view staged text d fit

-- the words are seen by whoever reads
abbrev pub AreSeenFits : Spot → View → List StagedChunk → List ℕ → ReadFit → Type 0
AreSeenFits spot view staged words fit =
    (history : History) (t : Option Transaction) → IsReadOf history spot t view staged
    → IsSeenFit history (window_at spot) (reader spot.line t) view words fit
