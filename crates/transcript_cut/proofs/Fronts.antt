-- The line at the front of a text, as it is judged without its LF.
use Rattle.std.proofs.Common.{◌≡◌, ◌<◌, ℕ, ◌+◌, List, [], ◌∷◌, ◌++◌, false, length, take, drop, sym, ap, subst, ◌∙◌, arith, append_assoc, length-append}
use Rattle.std.specs.Prelude.{IsTrue, Option}
use Rattle.std.proofs.lemmas.List.{length-take-le, take_at}
use Rattle.serde_json.specs.Data.{Data}
use Rattle.json_forms.specs.Bytes.{data_of}
use Rattle.transcript_laws.specs.AnswerLines.{has_lf, outside, is_compact}
use Rattle.transcript_laws.specs.Unchecked.{IsMemoryAnswer}
use Rattle.transcript_laws.proofs.Laws.{cut_once, regroup}
use Rattle.transcript_cut.specs.LineEnds.{IsLineEnd}
use Rattle.transcript_cut.specs.Judged.{IsAnswerLine, IsOtherLine, IsJudged}
use Rattle.transcript_cut.specs.Numbers.{PrintsNumbers}
use Rattle.transcript_cut.specs.Keeping.{IsKeptOf}
use Rattle.transcript_cut.specs.Fronts.{BeginsWithAnswer, BeginsWithMemory, BeginsOtherwise}
use Rattle.transcript_cut.specs.declared.answers.Judged.{Judged}
use Rattle.transcript_cut.specs.declared.answers.Judged.TheVariants.{Answer, Memory, Other}
use Rattle.transcript_cut.specs.declared.numbers.EventNumbers.{EventNumbers}
use Rattle.transcript_cut.specs.declared.said.KeptAnswer.{KeptAnswer}
use Rattle.transcript_cut.proofs.Lines.{lf_in}

-- without an LF nothing begins with a line
pub no_front : (text : List ℕ) (number : ℕ) → has_lf text ≡ false → BeginsOtherwise text number
no_front text number none = record {
  no_answer = λ first rest answer is parts. lf_in is.bytes rest text none (parts ∙ regroup is.bytes first rest is.line);
  no_memory = λ begins. lf_in begins.bytes begins.rest text none begins.parts;
}

front_and_one : (xs : List ℕ) (y : ℕ) (ys : List ℕ) → take (length xs + 1) (xs ++ y ∷ ys) ≡ xs ++ y ∷ []
front_and_one xs y ys = ap (take (length xs + 1)) (sym (append_assoc xs (y ∷ []) ys)) ∙ take_at (xs ++ y ∷ []) ys (length xs + 1) (length-append xs (y ∷ []))

module _ (text : List ℕ) (number spot : ℕ) (end : IsLineEnd text spot) (low : spot < length text) where
  abbrev line : List ℕ
  line = take spot text

  abbrev rest : List ℕ
  rest = drop (spot + 1) text

  -- with its LF
  taken : take (spot + 1) text ≡ line ++ 10 ∷ []
  taken =
      let size : length line ≡ spot = length-take-le spot text end.within in
      ap (take (spot + 1)) (end.behind low) ∙ ap (λ n. take (n + 1) (line ++ 10 ∷ rest)) (sym size) ∙ front_and_one line 10 rest

  pub answer_front : (numbers : EventNumbers) (kept : Option KeptAnswer) (answer : Data) → IsAnswerLine line number answer → PrintsNumbers answer numbers → IsKeptOf answer kept → BeginsWithAnswer text number (spot + 1) numbers kept
  answer_front numbers kept answer is prints keeps = record {
    answer = answer;
    within = omega (arith, low);
    is = record {
      bytes = line;
      line = taken;
      one_line = end.before;
      object = record { json = is.json; members = is.is.members; object = is.is.object; compact = is.is.compact };
      numbered = is.is.numbered;
    };
    plain = is.plain;
    prints = prints;
    keeps = keeps;
  }

  pub memory_front : IsMemoryAnswer line → BeginsWithMemory text
  memory_front is = record { bytes = line; rest = rest; parts = end.behind low; one_line = end.before; memory = is }

  pub other_front : IsOtherLine line number → BeginsOtherwise text number
  other_front is = record {
    no_answer = λ first more answer other parts.
        let same = cut_once other.bytes more line rest other.one_line end.before (sym (regroup other.bytes first more other.line) ∙ sym parts ∙ end.behind low) in
        is.no_answer answer (ap data_of (sym same.front) ∙ other.object.json)
        (record { members = other.object.members; object = other.object.object; compact = subst (λ bytes. IsTrue (is_compact outside bytes)) same.front other.object.compact; numbered = other.numbered });
    no_memory = λ begins.
        let same = cut_once begins.bytes begins.rest line rest begins.one_line end.before (sym begins.parts ∙ end.behind low) in
        is.no_memory (subst IsMemoryAnswer same.front begins.memory);
  }

  -- what begins with a line that is judged so
  abbrev pub Begins : Judged → Type 0
  Begins (Answer numbers kept) = BeginsWithAnswer text number (spot + 1) numbers kept
  Begins Memory = BeginsWithMemory text
  Begins Other = BeginsOtherwise text number

  pub begins : (bytes : List ℕ) → bytes ≡ line → (judged : Judged) → IsJudged bytes number judged → Begins judged
  begins bytes same (Answer numbers kept) is = let j = subst (λ b. IsJudged b number (Answer numbers kept)) same is in answer_front numbers kept j.0 j.1 j.2 j.3
  begins bytes same Memory is = memory_front (subst (λ b. IsJudged b number Memory) same is)
  begins bytes same Other is = other_front (subst (λ b. IsJudged b number Other) same is)
