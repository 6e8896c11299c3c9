-- One line at most is that because of which a transcript isn't checked; so one verdict is right.
use Rattle.std.proofs.Common.{◌≡◌, ℕ, List, [], ◌∷◌, ◌++◌, Bool, true, false, length, append_assoc, sym, ap, subst, ◌∙◌}
use Rattle.std.specs.List.{AllByRecursion, flat_map}
use Rattle.json_forms.specs.Bytes.{data_of}
use Rattle.history.specs.History.{History}
use Rattle.history.proofs.Known.{some_inj}
use Rattle.answer_data.specs.Lines.{has_lf}
use Rattle.transcript_laws.specs.Transcript.{ScriptLine, Told, AreToldOf, IsToldOf}
use Rattle.transcript_laws.specs.Unchecked.{is_unchecked, is_memory_answer, AreChecked, IsMemoryAnswer, IsFirstUnchecked, IsNotChecked, by_script, by_memory}
use Rattle.transcript_laws.specs.Verdicts.{Verdict, yes, no, not_checked, IsVerdict, is_yes, is_no, is_not_checked}
use Rattle.transcript_laws.proofs.Cuts.{among, cut_once, one_answer, regroup}
use Rattle.transcript_laws.proofs.Exclusive.{fits_once, fits_or_fails, part_is_one}

abbrev texts : List Told → List ℕ
texts told = flat_map (λ (t : Told). t.text) told

-- of two splits the first line that fails a test stands at one place
first_once : (P : ScriptLine → Bool) (os bs xs ys : List ScriptLine) (a b : ScriptLine) → os ++ a ∷ xs ≡ bs ++ b ∷ ys → AllByRecursion (λ l. P l ≡ false) os → AllByRecursion (λ l. P l ≡ false) bs → P a ≡ true → P b ≡ true → a ≡ b
first_once P [] [] xs ys a b same none other is are = cc
first_once P [] (c ∷ bs) xs ys a b same none other is are = let first : a ≡ c = cc in let both : true ≡ false = sym is ∙ ap P first ∙ other.0 in absurd (cc)
first_once P (c ∷ os) [] xs ys a b same none other is are = let first : c ≡ b = cc in let both : true ≡ false = sym are ∙ ap P (sym first) ∙ none.0 in absurd (cc)
first_once P (c ∷ os) (d ∷ bs) xs ys a b same none other is are = let rest : os ++ a ∷ xs ≡ bs ++ b ∷ ys = cc in first_once P os bs xs ys a b rest none.1 other.1 is are

-- an answer that isn't want of memory, where one that is stands
clash : (line : ScriptLine) (t : Told) (bytes ys rest : List ℕ) → IsToldOf line t → has_lf bytes ≡ false → IsMemoryAnswer bytes → is_memory_answer t.answer ≡ false → t.text ++ ys ≡ bytes ++ 10 ∷ rest → ⊥
clash line t bytes ys rest is none memory isnt same =
    let s = cut_once is.answer.bytes ys bytes rest is.answer.one_line none (sym (regroup is.answer.bytes t.text ys is.answer.line) ∙ same) in
    let answer : t.answer ≡ memory.answer = some_inj t.answer memory.answer (sym is.answer.object.json ∙ ap data_of s.front ∙ memory.json) in
    let both : false ≡ true = sym isnt ∙ ap is_memory_answer answer ∙ memory.memory in
    cc

cut_off_once : (os bs xs ys : List ScriptLine) (a b : ScriptLine) (told other : List Told) (bytes others rest more : List ℕ) → os ++ a ∷ xs ≡ bs ++ b ∷ ys → AreToldOf os told → AreToldOf bs other
    → AllByRecursion (λ (t : Told). is_memory_answer t.answer ≡ false) told → AllByRecursion (λ (t : Told). is_memory_answer t.answer ≡ false) other
    → has_lf bytes ≡ false → has_lf others ≡ false → IsMemoryAnswer bytes → IsMemoryAnswer others → texts told ++ (bytes ++ 10 ∷ rest) ≡ texts other ++ (others ++ 10 ∷ more) → a ≡ b
cut_off_once [] [] xs ys a b told other bytes others rest more same is are none isnt one two memory memories text = cc
cut_off_once [] (c ∷ bs) xs ys a b [] [] bytes others rest more same is are none isnt one two memory memories text = absurd are
cut_off_once [] (c ∷ bs) xs ys a b [] (u ∷ other) bytes others rest more same is are none isnt one two memory memories text =
    absurd (clash c u bytes (texts other ++ (others ++ 10 ∷ more)) rest are.0 one memory isnt.0 (sym (append_assoc u.text (texts other) (others ++ 10 ∷ more)) ∙ sym text))
cut_off_once [] (c ∷ bs) xs ys a b (t ∷ told) other bytes others rest more same is are none isnt one two memory memories text = absurd is
cut_off_once (c ∷ os) bs xs ys a b [] other bytes others rest more same is are none isnt one two memory memories text = absurd is
cut_off_once (c ∷ os) [] xs ys a b (t ∷ told) [] bytes others rest more same is are none isnt one two memory memories text =
    absurd (clash c t others (texts told ++ (bytes ++ 10 ∷ rest)) more is.0 two memories none.0 (sym (append_assoc t.text (texts told) (bytes ++ 10 ∷ rest)) ∙ text))
cut_off_once (c ∷ os) [] xs ys a b (t ∷ told) (u ∷ other) bytes others rest more same is are none isnt one two memory memories text = absurd are
cut_off_once (c ∷ os) (d ∷ bs) xs ys a b (t ∷ told) [] bytes others rest more same is are none isnt one two memory memories text = absurd are
cut_off_once (c ∷ os) (d ∷ bs) xs ys a b (t ∷ told) (u ∷ other) bytes others rest more same is are none isnt one two memory memories text =
    let lines : os ++ a ∷ xs ≡ bs ++ b ∷ ys = cc in
    let parts : t.text ++ (texts told ++ (bytes ++ 10 ∷ rest)) ≡ u.text ++ (texts other ++ (others ++ 10 ∷ more)) =
    sym (append_assoc t.text (texts told) (bytes ++ 10 ∷ rest)) ∙ text ∙ append_assoc u.text (texts other) (others ++ 10 ∷ more) in
    let s = one_answer c.number d.number t.text u.text t.answer u.answer (texts told ++ (bytes ++ 10 ∷ rest)) (texts other ++ (others ++ 10 ∷ more)) is.0.answer are.0.answer parts in
    cut_off_once os bs xs ys a b told other bytes others rest more lines is.1 are.1 none.1 isnt.1 one two memory memories s.rest

module _ (scripts : List (List ℕ)) (transcript : List ℕ) where
  none_first : AreChecked scripts → (line : ScriptLine) → IsFirstUnchecked scripts line → ⊥
  none_first checked line first =
      let is : is_unchecked line ≡ false = among (λ l. is_unchecked l ≡ false) first.earlier first.later line (subst (AllByRecursion (λ l. is_unchecked l ≡ false)) first.lines checked) in
      let both : true ≡ false = sym first.unchecked ∙ is in
      cc

  pub line_is_one : (a b : ScriptLine) → IsNotChecked scripts transcript a → IsNotChecked scripts transcript b → a ≡ b
  line_is_one a b (by_script f) (by_script g) = first_once is_unchecked f.earlier g.earlier f.later g.later a b (sym f.lines ∙ g.lines) f.checked g.checked f.unchecked g.unchecked
  line_is_one a b (by_script f) (by_memory all g) = absurd (none_first all a f)
  line_is_one a b (by_memory all f) (by_script g) = absurd (none_first all b g)
  line_is_one a b (by_memory all f) (by_memory every g) =
      cut_off_once f.earlier g.earlier f.later g.later a b f.told g.told f.bytes g.bytes f.rest g.rest (sym f.lines ∙ g.lines) f.each g.each f.none g.none f.one_line g.one_line f.memory g.memory (sym f.parts ∙ g.parts)

  pub verdict_is_one : (v w : Verdict) → IsVerdict scripts transcript v → IsVerdict scripts transcript w → v ≡ w
  verdict_is_one v w (is_yes {history = h} checked fits) (is_yes {history = k} again others) = ap (λ (x : History). yes (length x)) (fits_once scripts transcript h k fits others)
  verdict_is_one v w (is_yes {history = h} checked fits) (is_no {part = p} again fails) = absurd (fits_or_fails scripts transcript h p fits fails)
  verdict_is_one v w (is_yes checked fits) (is_not_checked {line = b} isnt) = absurd (checked b isnt)
  verdict_is_one v w (is_no {part = p} checked fails) (is_yes {history = k} again fits) = absurd (fits_or_fails scripts transcript k p fits fails)
  verdict_is_one v w (is_no {part = p} checked fails) (is_no {part = q} again others) = ap no (part_is_one scripts transcript p q fails others)
  verdict_is_one v w (is_no checked fails) (is_not_checked {line = b} isnt) = absurd (checked b isnt)
  verdict_is_one v w (is_not_checked {line = a} isnt) (is_yes checked fits) = absurd (checked a isnt)
  verdict_is_one v w (is_not_checked {line = a} isnt) (is_no checked fails) = absurd (checked a isnt)
  verdict_is_one v w (is_not_checked {line = a} isnt) (is_not_checked {line = b} are) = ap (λ (l : ScriptLine). not_checked l.session l.number) (line_is_one a b isnt are)
