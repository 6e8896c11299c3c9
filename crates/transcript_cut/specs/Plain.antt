-- Answers of few numbers, by which all went well.
use Rattle.std.specs.Prelude.{◌≡◌, ◌<◌, ◌^◌, ℕ, List, [], ◌∷◌, ◌++◌, Option, Some, None, false}
use Rattle.cells.specs.declared.dtype.Dtype.TheVariants.{I64}
use Rattle.serde_json.specs.Data.{Data}
use Rattle.transcript_laws.specs.Answers.{answer_data}
use Rattle.transcript_laws.specs.Printable.{IsPrintable}
use Rattle.transcript_laws.specs.Text.{answer_text}
use Rattle.transcript_laws.specs.declared.Answer.{Answer}
use Rattle.transcript_laws.specs.declared.Body.{Body}
use Rattle.transcript_laws.specs.declared.Body.TheVariants as body
use Rattle.transcript_cut.specs.declared.numbers.EventNumbers.{EventNumbers}
use Rattle.transcript_cut.specs.declared.plain.Plain.{Plain}
use Rattle.transcript_cut.specs.declared.plain.Plain.TheVariants.{Begun, Aborted, Staged, Committed, Written, Cell}

-- what it tells beside the number of its line
abbrev pub plain_body : Plain → Body
plain_body Begun = body.Begun
plain_body Aborted = body.Aborted
plain_body (Staged cells) = body.Staged cells
plain_body (Committed event) = body.Committed (event ∷ [])
plain_body (Written cells event) = body.Written cells (event ∷ [])
plain_body (Cell word) = body.Values [] [] I64 (word ∷ [])

-- the answer to the line of a number
abbrev pub plain_answer : Plain → ℕ → Answer
plain_answer plain number = record { line = number; body = plain_body plain }

-- what it reads as
abbrev pub plain_data : Plain → ℕ → Data
plain_data plain number = answer_data (plain_answer plain number)

-- the events that it prints
abbrev pub plain_events : Plain → List ℕ
plain_events Begun = []
plain_events Aborted = []
plain_events (Staged cells) = []
plain_events (Committed event) = event ∷ []
plain_events (Written cells event) = event ∷ []
plain_events (Cell word) = []

-- these alone
abbrev pub plain_numbers : Plain → EventNumbers
plain_numbers plain = record { opened = []; done = plain_events plain; failed = None; damaged = false }

-- its numbers take 64 bits
abbrev pub HasSmallNumbers : Plain → Type 0
HasSmallNumbers Begun = Unit {0}
HasSmallNumbers Aborted = Unit {0}
HasSmallNumbers (Staged cells) = cells < 2 ^ 64
HasSmallNumbers (Committed event) = event < 2 ^ 64
HasSmallNumbers (Written cells event) = (cells < 2 ^ 64) × (event < 2 ^ 64)
HasSmallNumbers (Cell word) = word < 2 ^ 64

-- the text is its line, with the LF, and reads back
pub record IsPlainText (text : List ℕ) (number : ℕ) (plain : Plain) : Type 0 where
  pub same : text ≡ answer_text (plain_answer plain number)
  pub printable : IsPrintable (plain_answer plain number)

-- the bytes are its line, without the LF, and read back
pub record IsPlainLine (bytes : List ℕ) (number : ℕ) (plain : Plain) : Type 0 where
  pub line : answer_text (plain_answer plain number) ≡ bytes ++ 10 ∷ []
  pub printable : IsPrintable (plain_answer plain number)

-- the answer of one cell
abbrev pub cell_answer : ℕ → ℕ → Data
cell_answer number word = plain_data (Cell word) number
