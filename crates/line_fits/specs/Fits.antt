-- Which answers fit what a line asks.
use Rattle.std.specs.Prelude.{◌≡◌, ℕ, List, Option}
use Rattle.serde_json.specs.Data.{Data}
use Rattle.transcript_cut.specs.Text.{answer_text}
use Rattle.transcript_cut.specs.Answers.{answer_data}
use Rattle.history.specs.Acts.{Asked}
use Rattle.history.specs.Answers.{Body}
use Rattle.history.specs.Commit.{Transaction}
use Rattle.history.specs.History.{History}
use Rattle.transcript_cut.specs.Fitting.{IsAnswer, printed_at}
use Rattle.transcript_cut.specs.ToldNumbers.{opened_in}
use Rattle.transcript_cut.specs.Windows.{Window}

-- to a line of this number, for a session with this number, transaction and window, that asks for this, a text is an answer that it may have,
-- and reads as this object
pub record IsAnsweredBy (history : History) (owner : ℕ) (w : Window) (t : Option Transaction) (line : ℕ) (asked : Asked)
    (text : List ℕ) (d : Data) : Type 0 where
  pub answer : Body
  pub printed : text ≡ answer_text (printed_at line answer)
  pub object : d ≡ answer_data (printed_at line answer)
  pub may : IsAnswer history owner w t line (opened_in d) asked answer
