-- What a line of a transcript is, without its LF.
use Rattle.std.specs.Prelude.{◌≡◌, ℕ, List, pos, false, Option, Some, None, IsTrue, option_and_then, codes}
use Rattle.serde_json.specs.Data.{Data, Members}
use Rattle.serde_json.specs.Find.{get, as_object}
use Rattle.json_forms.specs.Bytes.{data_of}
use Rattle.json_forms.specs.Numbers.{whole_number}
use Rattle.transcript_laws.specs.AnswerLines.{outside, is_compact}
use Rattle.transcript_laws.specs.Unchecked.{is_memory_answer, IsMemoryAnswer}
use Rattle.transcript_cut.specs.Numbers.{PrintsNumbers}
use Rattle.transcript_cut.specs.Keeping.{IsKeptOf}
use Rattle.transcript_cut.specs.Plain.{plain_numbers}
use Rattle.transcript_cut.specs.declared.answers.Judged.{Judged}
use Rattle.transcript_cut.specs.declared.answers.Judged.TheVariants.{Answer, Memory, Other}
use Rattle.transcript_cut.specs.declared.plain.Plain.{Plain}
use Rattle.transcript_cut.specs.declared.plain.Plain.TheVariants as plain
use Rattle.transcript_cut.specs.declared.said.KeptAnswer.{KeptAnswer}
use Rattle.transcript_cut.specs.declared.said.KeptAnswer.TheVariants.{Cell}

-- the bytes, which are this data, are a compact object with the number of a line
pub record IsAnswerOf (bytes : List ℕ) (number : ℕ) (answer : Data) : Type 0 where
  pub members : Members
  pub object : as_object answer ≡ Some members
  pub compact : IsTrue (is_compact outside bytes)
  pub numbered : option_and_then whole_number (get (codes "line") answer) ≡ Some (pos number)

-- the bytes are an answer to the line of a number, which isn't want of memory
pub record IsAnswerLine (bytes : List ℕ) (number : ℕ) (answer : Data) : Type 0 where
  pub json : data_of bytes ≡ Some answer
  pub is : IsAnswerOf bytes number answer
  pub plain : is_memory_answer answer ≡ false

-- the bytes are neither such an answer nor want of memory
pub record IsOtherLine (bytes : List ℕ) (number : ℕ) : Type 0 where
  pub no_answer : (answer : Data) → data_of bytes ≡ Some answer → ¬ IsAnswerOf bytes number answer
  pub no_memory : ¬ IsMemoryAnswer bytes

-- the line is as it is judged to be
abbrev pub IsJudged : List ℕ → ℕ → Judged → Type 0
IsJudged bytes number (Answer numbers kept) = (answer : Data) × IsAnswerLine bytes number answer × PrintsNumbers answer numbers × IsKeptOf answer kept
IsJudged bytes number Memory = IsMemoryAnswer bytes
IsJudged bytes number Other = IsOtherLine bytes number

-- of an answer of one cell that is kept
abbrev pub plain_kept : Plain → ℕ → Option KeptAnswer
plain_kept plain.Begun number = None
plain_kept plain.Aborted number = None
plain_kept (plain.Staged cells) number = None
plain_kept (plain.Committed event) number = None
plain_kept (plain.Written cells event) number = None
plain_kept (plain.Cell word) number = Some (Cell number word)

-- a line that its bytes tell
abbrev pub plain_judged : Plain → ℕ → Judged
plain_judged plain number = Answer (plain_numbers plain) (plain_kept plain number)
