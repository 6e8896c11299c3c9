-- What stands at the front of a text.
use Rattle.std.specs.Prelude.{◌≡◌, ◌≤◌, ℕ, List, ◌∷◌, ◌++◌, Option, false, length, take}
use Rattle.serde_json.specs.Data.{Data}
use Rattle.transcript_laws.specs.AnswerLines.{has_lf, IsAnswerText}
use Rattle.transcript_laws.specs.Unchecked.{is_memory_answer, IsMemoryAnswer}
use Rattle.transcript_cut.specs.Numbers.{PrintsNumbers}
use Rattle.transcript_cut.specs.Keeping.{IsKeptOf}
use Rattle.transcript_cut.specs.declared.numbers.EventNumbers.{EventNumbers}
use Rattle.transcript_cut.specs.declared.answers.Front.{Front}
use Rattle.transcript_cut.specs.declared.answers.Front.TheVariants.{Answer, Memory, Other}
use Rattle.transcript_cut.specs.declared.said.KeptAnswer.{KeptAnswer}

-- the first bytes are the answer to the line of a number, which isn't want of memory and prints these numbers, and of which this is kept
pub record BeginsWithAnswer (text : List ℕ) (number : ℕ) (size : ℕ) (numbers : EventNumbers) (kept : Option KeptAnswer) : Type 0 where
  pub answer : Data
  pub within : size ≤ length text
  pub is : IsAnswerText number (take size text) answer
  pub plain : is_memory_answer answer ≡ false
  pub prints : PrintsNumbers answer numbers
  pub keeps : IsKeptOf answer kept

-- the first line is want of memory
pub record BeginsWithMemory (text : List ℕ) : Type 0 where
  pub bytes : List ℕ
  pub rest : List ℕ
  pub parts : text ≡ bytes ++ 10 ∷ rest
  pub one_line : has_lf bytes ≡ false
  pub memory : IsMemoryAnswer bytes

-- no first line is the answer to the line of a number, or want of memory
pub record BeginsOtherwise (text : List ℕ) (number : ℕ) : Type 0 where
  pub no_answer : (first rest : List ℕ) (answer : Data) → IsAnswerText number first answer → ¬ (text ≡ first ++ rest)
  pub no_memory : ¬ BeginsWithMemory text

-- the front is as it is judged to be
abbrev pub IsFront : List ℕ → ℕ → Front → Type 0
IsFront text number (Answer size numbers kept) = BeginsWithAnswer text number size numbers kept
IsFront text number Memory = BeginsWithMemory text
IsFront text number Other = BeginsOtherwise text number
