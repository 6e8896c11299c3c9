-- The parts by which the answer to an open line is judged.
use Rattle.std.specs.Prelude.{◌≡◌, ◌<◌, ◌≤◌, ◌↔◌, ℕ, suc, List, Bool, false, Option, Some, None, Result, Ok, Err, IsTrue}
use Rattle.std.specs.List.{slice_get}
use Rattle.serde_json.specs.Data.{Data}
use Rattle.read_fits.specs.Text.{answer_text}
use Rattle.read_fits.specs.Answers.{answer_data}
use Rattle.read_fits.specs.AnswerLines.{IsAnswerText}
use Rattle.history.specs.Answers as body
use Rattle.history.specs.Answers.{Body, Text, BuildCause}
use Rattle.history.specs.Viewing.{opened_body}
use Rattle.stack_driver.specs.References.{Reference}
use Rattle.stack_driver.specs.declared.view.View.{View}
use Rattle.read_fits.specs.Built.{built}
use Rattle.read_fits.specs.declared.Tree.{Tree}
use Rattle.read_fits.specs.Fitting.{printed_at}
use Rattle.read_fits.specs.Openings.{by_built}
use Rattle.open_fits.specs.declared.moments.Moment.{Moment}
use Rattle.open_fits.specs.declared.questions.OpenTold.{OpenTold}

-- the text and the object are those of this answer
pub record IsPrintedAs (told : OpenTold) (d : Data) (answer : Body) : Type 0 where
  pub text : told.text ≡ answer_text (printed_at told.line answer)
  pub object : d ≡ answer_data (printed_at told.line answer)

-- whether the line was answered so
abbrev pub IsToldSo : OpenTold → Body → Bool → Type 0
IsToldSo told answer is = (d : Data) → IsAnswerText told.line told.text d → IsTrue is ↔ IsPrintedAs told d answer

-- the answer where each leaf has its array
abbrev pub built_body : Text → List ℕ → Result View (Text × BuildCause) → Body
built_body name numbers (Ok view) = opened_body name view numbers
built_body name numbers (Err refusal) = body.refused_spec refusal.0 refusal.1 numbers

-- whether it is the answer where these are the arrays
abbrev pub IsBuiltAs : Tree → List Reference → OpenTold → Bool → Type 0
IsBuiltAs tree arrays told is = IsToldSo told (built_body told.name told.numbers (by_built (built arrays tree))) is

-- no leaf from this one on takes a number, and the one before does
pub record IsTakenEnd (takings : List (Option ℕ)) (end : ℕ) : Type 0 where
  pub behind : (k : ℕ) (n : Option ℕ) → end ≤ k → slice_get takings k ≡ Some n → n ≡ None
  pub last : (k : ℕ) → end ≡ suc k → (n : ℕ) × (slice_get takings k ≡ Some (Some n))

-- the leaves that were opened and the next one, of so many
pub record IsEndOf (settled count end : ℕ) : Type 0 where
  pub within : end ≤ count
  pub below : (k : ℕ) → k ≤ settled → k < count → k < end
  pub only : (k : ℕ) → k < end → k ≤ settled

-- the moment lies in the window, and among the events; that of a failed store call may lie behind the window
pub record IsInWindow (told : OpenTold) (count : ℕ) (moment : Moment) : Type 0 where
  pub not_older : told.from ≤ moment.events
  pub within : moment.events ≤ count
  pub early : moment.is_failed ≡ false → moment.events ≤ told.upto
