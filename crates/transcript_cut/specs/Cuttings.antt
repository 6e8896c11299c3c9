-- What cutting a transcript gives.
use Rattle.std.specs.Prelude.{◌≡◌, ℕ, ◌+◌, List, [], ◌∷◌, ◌++◌, map, Option, false}
use Rattle.std.specs.List.{AllByRecursion}
use Rattle.transcript_laws.specs.Transcript.{ScriptLine, lines_of_scripts, Told, IsCut}
use Rattle.transcript_laws.specs.Unchecked.{is_memory_answer, IsCutOff}
use Rattle.transcript_laws.specs.Verdicts.{FailsPart1}
use Rattle.transcript_cut.specs.Fronts.{BeginsWithAnswer, BeginsWithMemory, BeginsOtherwise}
use Rattle.transcript_cut.specs.Said.{AreSaid}
use Rattle.transcript_cut.specs.Spans.{line_at, IsPlaced}
use Rattle.transcript_cut.specs.declared.cutting.Cutting.{Cutting}
use Rattle.transcript_cut.specs.declared.cutting.Cutting.TheVariants.{Whole, Broken, CutOff}
use Rattle.transcript_cut.specs.declared.cutting.Ending.{Ending}
use Rattle.transcript_cut.specs.declared.cutting.Ending.TheVariants.{Complete, Spoiled, Short}
use Rattle.transcript_cut.specs.declared.cutting.Found.{Found}
use Rattle.transcript_cut.specs.declared.cutting.Found.TheVariants.{Answer, Memory, Other}
use Rattle.transcript_cut.specs.declared.numbers.EventNumbers.{EventNumbers}
use Rattle.transcript_cut.specs.declared.said.AskedLine.{AskedLine}
use Rattle.transcript_cut.specs.declared.said.Said.{Said}
use Rattle.transcript_cut.specs.declared.said.KeptAnswer.{KeptAnswer}

-- the lines of which something is kept
abbrev pub lines_kept : List (List ℕ) → List Said → List ScriptLine
lines_kept scripts kept = map (λ (s : Said). line_at scripts s.line) kept

-- the transcript is cut, no answer is want of memory, and this is kept of it, line by line
pub record IsWholeCut (scripts : List (List ℕ)) (transcript : List ℕ) (kept : List Said) : Type 0 where
  pub told : List Told
  pub cut : IsCut scripts transcript told
  pub said : AreSaid scripts transcript kept told
  pub lines : lines_kept scripts kept ≡ lines_of_scripts 0 scripts
  pub plain : AllByRecursion (λ (t : Told). is_memory_answer t.answer ≡ false) told

-- the transcript can't be cut, and not because of want of memory
pub record IsBroken (scripts : List (List ℕ)) (transcript : List ℕ) : Type 0 where
  pub fails : FailsPart1 scripts transcript
  pub whole : (line : ScriptLine) → ¬ IsCutOff scripts transcript line

-- the first answer of want of memory stands where one to this line should
pub record IsCutOffAt (scripts : List (List ℕ)) (transcript : List ℕ) (line : AskedLine) : Type 0 where
  pub placed : IsPlaced scripts line
  pub cut_off : IsCutOff scripts transcript (line_at scripts line)

-- the transcript is as the cutting says
abbrev pub IsCutting : List (List ℕ) → List ℕ → Cutting → Type 0
IsCutting scripts transcript (Whole said) = IsWholeCut scripts transcript said
IsCutting scripts transcript Broken = IsBroken scripts transcript
IsCutting scripts transcript (CutOff line) = IsCutOffAt scripts transcript line

-- the same, by how it ended and what was kept until then
abbrev pub IsEnding : List (List ℕ) → List ℕ → List Said → Ending → Type 0
IsEnding scripts transcript said Complete = IsWholeCut scripts transcript said
IsEnding scripts transcript said Spoiled = IsBroken scripts transcript
IsEnding scripts transcript said (Short line) = IsCutOffAt scripts transcript line

-- an answer of so many bytes stands at the front of the text, which begins at this byte; and what is kept now
pub record IsKeptAnswer (text : List ℕ) (line : AskedLine) (at size : ℕ) (old new : List Said) : Type 0 where
  pub numbers : EventNumbers
  pub answer : Option KeptAnswer
  pub begins : BeginsWithAnswer text line.number size numbers answer
  pub kept : new ≡ old ++ record { line = line; text = record { from = at; upto = at + size }; numbers = numbers; answer = answer } ∷ []

-- what was found at the front of a text
abbrev pub IsFound : List ℕ → AskedLine → ℕ → List Said → List Said → Found → Type 0
IsFound text line at old new (Answer size) = IsKeptAnswer text line at size old new
IsFound text line at old new Memory = BeginsWithMemory text
IsFound text line at old new Other = BeginsOtherwise text line.number
