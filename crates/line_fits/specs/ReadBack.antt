-- When the text of an answer reads back as the answer.
use Rattle.std.specs.Prelude.{◌≡◌, ◌<◌, ◌^◌, ℕ}
use Rattle.serde_json.specs.Data.{Data}
use Rattle.transcript_cut.specs.Text.{answer_text}
use Rattle.transcript_cut.specs.declared.Answer.{Answer}
use Rattle.transcript_cut.specs.declared.Body.{Body}
use Rattle.transcript_cut.specs.Answers.{answer_data}
use Rattle.transcript_cut.specs.AnswerLines.{IsAnswerText}

-- where the answer's text is a line of a script's answers at all, it reads as the answer's object
pub record IsReadBack (answer : Answer) : Type 0 where
  pub back : (number : ℕ) (d : Data) → IsAnswerText number (answer_text answer) d → d ≡ answer_data answer

-- so does that of an answer with this body, at whatever line of 64 bits
pub record ReadsBack (body : Body) : Type 0 where
  pub at_line : (line : ℕ) → line < 2 ^ 64 → IsReadBack (record { line = line; body = body })
