-- Transcripts of checked scripts that are checked.
use Rattle.std.proofs.Common.{◌≡◌, ℕ, zero, suc, List, [], ◌∷◌, true, false, sym, subst, ◌∙◌, arith}
use Rattle.std.specs.Prelude.{Contains}
use Rattle.std.specs.List.{AllByRecursion}
use Rattle.transcript_fits.specs.Cuttings.{IsWholeCut}
use Rattle.transcript_fits.specs.declared.Said.{Said}
use Rattle.transcript_fits.specs.Transcript.{ScriptLine, Told}
use Rattle.transcript_fits.specs.Unchecked.{is_unchecked, is_memory_answer, AreChecked, IsFirstUnchecked, IsCutOff, IsNotChecked, by_script, by_memory}
use Rattle.transcript_fits.specs.Verdicts.{IsChecked}
use Rattle.transcript_fits.proofs.Laws.{uncut}
use Rattle.transcript_fits.proofs.Laws.{among}

-- what holds of each is so of one of them
each_of : (P : Told → Type 0) (told : List Told) (t : Told) → AllByRecursion P told → Contains told t → P t
each_of P [] t all (k, low, is) = absurd (omega (arith, low))
each_of P (u ∷ told) t all (zero, low, is) = subst P is all.0
each_of P (u ∷ told) t all (suc k, low, is) = each_of P told t all.1 (k, omega (arith, low), is)

module _ (scripts : List (List ℕ)) (transcript : List ℕ) (checked : AreChecked scripts) where
  none_first : (line : ScriptLine) → IsFirstUnchecked scripts line → ⊥
  none_first line first =
      let is : is_unchecked line ≡ false = among (λ l. is_unchecked l ≡ false) first.earlier first.later line (subst (AllByRecursion (λ l. is_unchecked l ≡ false)) first.lines checked) in
      let both : true ≡ false = sym first.unchecked ∙ is in
      cc

  unless : ((line : ScriptLine) → ¬ IsCutOff scripts transcript line) → (line : ScriptLine) → IsNotChecked scripts transcript line → ⊥
  unless whole line (by_script first) = none_first line first
  unless whole line (by_memory all off) = whole line off

  -- a transcript in which no want of memory ends the answers
  pub whole_is_checked : ((line : ScriptLine) → ¬ IsCutOff scripts transcript line) → IsChecked scripts transcript
  whole_is_checked whole = unless whole

  -- one that is cut into answers
  pub cut_is_checked : (said : List Said) → IsWholeCut scripts transcript said → IsChecked scripts transcript
  cut_is_checked said is = whole_is_checked (uncut scripts transcript is.told is.cut (λ t there. each_of (λ (u : Told). is_memory_answer u.answer ≡ false) is.told t is.plain there))
