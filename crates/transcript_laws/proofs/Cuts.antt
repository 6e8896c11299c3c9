-- A transcript is cut in one way.
use Rattle.std.proofs.Common.{◌≡◌, ◌<◌, ℕ, zero, suc, length, arith, append_assoc, List, [], ◌∷◌, ◌++◌, Bool, true, false, ◌||◌, Some, refl, sym, ap, subst, ◌∙◌}
use Rattle.std.specs.Prelude.{◌==◌, Contains}
use Rattle.json_forms.specs.Bytes.{data_of}
use Rattle.transcript_laws.specs.Unchecked.{is_memory_answer, IsCutOff}
use Rattle.std.specs.List.{AllByRecursion, flat_map}
use Rattle.history.proofs.Known.{some_inj}
use Rattle.serde_json.specs.Data.{Data}
use Rattle.history.specs.Lines.{Line}
use Rattle.answer_data.specs.Lines.{has_lf, IsAnswerText}
use Rattle.transcript_laws.specs.Transcript.{ScriptLine, Told, IsToldOf, AreToldOf, IsCut, lines_of_scripts}

-- what holds of all lines holds of each
pub among : (P : ScriptLine → Type 0) (earlier later : List ScriptLine) (line : ScriptLine) → AllByRecursion P (earlier ++ line ∷ later) → P line
among P [] later line all = all.0
among P (l ∷ earlier) later line all = among P earlier later line all.1

-- what stands before and behind the first LF
pub record AreSame (xs ys us vs : List ℕ) : Type 0 where
  pub front : xs ≡ us
  pub rest : ys ≡ vs

or_false : (a b : Bool) → (a || b) ≡ false → (a ≡ false) × (b ≡ false)
or_false true b is = absurd (cc)
or_false false b is = (refl, is)

no_first : (b : ℕ) (bs : List ℕ) → has_lf (b ∷ bs) ≡ false → 10 ≡ b → ⊥
no_first b bs none is = let first : (b == 10) ≡ false = (or_false (b == 10) (has_lf bs) none).0 in let lf : (10 == 10) ≡ false = ap (λ x. x == 10) is ∙ first in cc

-- texts without an LF that an LF ends are the same, where what begins with them is
pub cut_once : (xs ys us vs : List ℕ) → has_lf xs ≡ false → has_lf us ≡ false → xs ++ 10 ∷ ys ≡ us ++ 10 ∷ vs → AreSame xs ys us vs
cut_once [] ys [] vs none other is = let same : ys ≡ vs = cc in record { front = refl; rest = same }
cut_once [] ys (u ∷ us) vs none other is = let first : 10 ≡ u = cc in absurd (no_first u us other first)
cut_once (x ∷ xs) ys [] vs none other is = let first : x ≡ 10 = cc in absurd (no_first x xs none (sym first))
cut_once (x ∷ xs) ys (u ∷ us) vs none other is =
    let first : x ≡ u = cc in
    let rest : xs ++ 10 ∷ ys ≡ us ++ 10 ∷ vs = cc in
    let s = cut_once xs ys us vs (or_false (x == 10) (has_lf xs) none).1 (or_false (u == 10) (has_lf us) other).1 rest in
    record { front = ap (λ z. z ∷ xs) first ∙ ap (λ zs. u ∷ zs) s.front; rest = s.rest }

-- two texts of answers with what stands behind them: the same text, the same object and the same rest
pub record AreOne (t u : List ℕ) (d e : Data) (ys vs : List ℕ) : Type 0 where
  pub text : t ≡ u
  pub answer : d ≡ e
  pub rest : ys ≡ vs

pub regroup : (bytes t rest : List ℕ) → t ≡ bytes ++ 10 ∷ [] → t ++ rest ≡ bytes ++ 10 ∷ rest
regroup bytes t rest is = ap (λ x. x ++ rest) is ∙ append_assoc bytes (10 ∷ []) rest

pub one_answer : (n m : ℕ) (t u : List ℕ) (d e : Data) (ys vs : List ℕ) → IsAnswerText n t d → IsAnswerText m u e → t ++ ys ≡ u ++ vs → AreOne t u d e ys vs
one_answer n m t u d e ys vs is other same =
    let s = cut_once is.bytes ys other.bytes vs is.one_line other.one_line (sym (regroup is.bytes t ys is.line) ∙ same ∙ regroup other.bytes u vs other.line) in
    record {
      text = is.line ∙ ap (λ bytes. bytes ++ 10 ∷ []) s.front ∙ sym other.line;
      answer = some_inj d e (sym is.object.json ∙ ap data_of s.front ∙ other.object.json);
      rest = s.rest;
    }

-- what is told of a line is one
abbrev made : ℕ → ℕ → Line → List ℕ → Data → Told
made session number asked text answer = record { session = session; number = number; asked = asked; text = text; answer = answer }

same_told : (line : ScriptLine) (t u : Told) → IsToldOf line t → IsToldOf line u → t.text ≡ u.text → t.answer ≡ u.answer → t ≡ u
same_told line t u is other text answer =
    ap (λ x. made x t.number t.asked t.text t.answer) (is.session ∙ sym other.session)
    ∙ ap (λ x. made u.session x t.asked t.text t.answer) (is.number ∙ sym other.number)
    ∙ ap (λ x. made u.session u.number x t.text t.answer) (is.asked ∙ sym other.asked)
    ∙ ap (λ x. made u.session u.number u.asked x t.answer) text
    ∙ ap (λ x. made u.session u.number u.asked u.text x) answer

abbrev texts : List Told → List ℕ
texts told = flat_map (λ (t : Told). t.text) told

one_told : (lines : List ScriptLine) (told other : List Told) → AreToldOf lines told → AreToldOf lines other → texts told ≡ texts other → told ≡ other
one_told [] [] [] is are same = refl
one_told [] [] (u ∷ us) is are same = absurd are
one_told [] (t ∷ ts) other is are same = absurd is
one_told (line ∷ lines) [] other is are same = absurd is
one_told (line ∷ lines) (t ∷ ts) [] is are same = absurd are
one_told (line ∷ lines) (t ∷ ts) (u ∷ us) is are same =
    let one = one_answer line.number line.number t.text u.text t.answer u.answer (texts ts) (texts us) is.0.answer are.0.answer same in
    ap (λ x. x ∷ ts) (same_told line t u is.0 are.0 one.text one.answer) ∙ ap (λ xs. u ∷ xs) (one_told lines ts us is.1 are.1 one.rest)

-- a transcript is cut in one way
pub cut_is_one : (scripts : List (List ℕ)) (transcript : List ℕ) (told other : List Told) → IsCut scripts transcript told → IsCut scripts transcript other → told ≡ other
cut_is_one scripts transcript told other is are = one_told _ told other is.each are.each (sym is.whole ∙ are.whole)

-- a line of a transcript that is cut, where first lines are those of the cut: the object that it is
pub record IsNext (told : List Told) (bytes : List ℕ) : Type 0 where
  pub next : Told
  pub place : Contains told next
  pub json : data_of bytes ≡ Some next.answer

later_next : (t : Told) (told : List Told) (bytes : List ℕ) → IsNext told bytes → IsNext (t ∷ told) bytes
later_next t told bytes is = record { next = is.next; place = (suc is.place.0, lt_suc is.place.0 (length told) is.place.1, is.place.2); json = is.json }
  where
    lt_suc : (k n : ℕ) → k < n → suc k < suc n
    lt_suc k n low = omega (arith, low)

next_line : (lines earlier later : List ScriptLine) (line : ScriptLine) (all told : List Told) (bytes rest : List ℕ) → lines ≡ earlier ++ line ∷ later → AreToldOf lines all → AreToldOf earlier told
    → has_lf bytes ≡ false → texts all ≡ texts told ++ (bytes ++ 10 ∷ rest) → IsNext all bytes
next_line lines [] later line [] told bytes rest parts is are none same = absurd (subst (λ ls. AreToldOf ls []) parts is)
next_line lines [] later line (t ∷ all) [] bytes rest parts is are none same =
    let first : IsToldOf line t = (subst (λ ls. AreToldOf ls (t ∷ all)) parts is).0 in
    let s = cut_once first.answer.bytes (texts all) bytes rest first.answer.one_line none (sym (regroup first.answer.bytes t.text (texts all) first.answer.line) ∙ same) in
    record { next = t; place = (zero, lit_first (length all), refl); json = sym (ap data_of s.front) ∙ first.answer.object.json }
  where
    lit_first : (n : ℕ) → 0 < suc n
    lit_first n = omega arith
next_line lines [] later line (t ∷ all) (u ∷ told) bytes rest parts is are none same = absurd are
next_line lines (l ∷ earlier) later line all [] bytes rest parts is are none same = absurd are
next_line lines (l ∷ earlier) later line [] (u ∷ told) bytes rest parts is are none same = absurd (subst (λ ls. AreToldOf ls []) parts is)
next_line lines (l ∷ earlier) later line (t ∷ all) (u ∷ told) bytes rest parts is are none same =
    let so : AreToldOf (l ∷ (earlier ++ line ∷ later)) (t ∷ all) = subst (λ ls. AreToldOf ls (t ∷ all)) parts is in
    let one = one_answer l.number l.number t.text u.text t.answer u.answer (texts all) (texts told ++ (bytes ++ 10 ∷ rest)) so.0.answer are.0.answer (same ∙ append_assoc u.text (texts told) (bytes ++ 10 ∷ rest)) in
    later_next t all bytes (next_line (earlier ++ line ∷ later) earlier later line all told bytes rest refl so.1 are.1 none one.rest)

-- no line of a transcript that is cut is another object than the cut says: a first answer of want of memory is one of these
pub uncut : (scripts : List (List ℕ)) (transcript : List ℕ) (all : List Told) → IsCut scripts transcript all → ((t : Told) → Contains all t → is_memory_answer t.answer ≡ false) → (line : ScriptLine) → IsCutOff scripts transcript line → ⊥
uncut scripts transcript all cut none line off =
    let n = next_line (lines_of_scripts 0 scripts) off.earlier off.later line all off.told off.bytes off.rest off.lines cut.each off.each off.one_line (sym cut.whole ∙ off.parts) in
    let same : n.next.answer ≡ off.memory.answer = some_inj n.next.answer off.memory.answer (sym n.json ∙ off.memory.json) in
    let is : true ≡ false = sym (off.memory.memory) ∙ ap is_memory_answer (sym same) ∙ none n.next n.place in
    cc
