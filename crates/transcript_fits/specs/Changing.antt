-- Answers to what changes the store.
use Rattle.std.specs.Prelude.{◌≡◌, ◌≤◌, ℕ, List, length, take, Some}
use Rattle.serde_json.specs.Data.{Data}
use Rattle.history.specs.Commit.{Transaction}
use Rattle.history.specs.CommitRows.{IsChangedOn}
use Rattle.history.specs.History.{History}
use Rattle.open_fits.specs.AnswerLines.{IsAnswerText}
use Rattle.open_fits.specs.OneAnswer.{IsFailure}
use Rattle.open_fits.specs.Transcript.{mount}
use Rattle.stated_history.specs.AnswerNumbers.{PrintsNumbers}
use Rattle.transcript_fits.specs.LineFits.{answer_of_line}
use Rattle.transcript_fits.specs.declared.line_fit.ToldLine.{ToldLine}

-- a line's text reads as its answer, whose numbers are these; that of a failed call is one of the history's events
pub record PrintsLine (history : History) (line : ToldLine) : Type 0 where
  pub text : IsAnswerText line.line line.text.now (answer_of_line line)
  pub numbers : PrintsNumbers (answer_of_line line) line.numbers.now
  pub early : (n : ℕ) → line.numbers.now.failed ≡ Some n → n ≤ length history

-- the text says that a store call failed behind so many events, where the transaction changes a stored array
pub record IsFailedChange (history : History) (t : Transaction) (line : ℕ) (text : List ℕ) (d : Data) : Type 0 where
  pub behind : ℕ
  pub told : IsFailure behind line text d
  pub changed : IsChangedOn (take behind history) t mount
