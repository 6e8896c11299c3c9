-- The transcript of three cells is checked, and the verdict is yes, by two events.
use Rattle.std.proofs.Common.{◌≡◌, zero, suc, arith, true, false, refl, sym, ap, subst, ◌∙◌}
use Rattle.std.specs.Prelude.{Contains}
use Rattle.std.specs.List.{AllByRecursion}
use Rattle.json_forms.specs.Members.{has_exactly, least_unknown}
use Rattle.transcript_laws.specs.Transcript.{ScriptLine, Told}
use Rattle.transcript_laws.specs.Unchecked.{is_unchecked, is_unchecked_in, is_memory_answer, AreChecked, IsFirstUnchecked, by_script, by_memory}
use Rattle.transcript_laws.specs.Verdicts.{IsVerdict, is_yes, IsChecked, yes}
use Rattle.transcript_laws.specs.ThreeCells.{scripts, transcript}
use Rattle.transcript_laws.specs.ThreeCellsTold.{told_all, told_1, told_2, told_3}
use Rattle.transcript_laws.proofs.Cuts.{among, uncut}
use Rattle.transcript_laws.proofs.ThreeCells.{row_fits}
use Rattle.transcript_laws.proofs.ThreeCellsAsks.{asks_1, asks_2, asks_3, is_cut}

checked : AreChecked scripts
checked = (ap is_unchecked_in asks_1, (ap is_unchecked_in asks_2, (ap is_unchecked_in asks_3, tt)))

pub none_first : (line : ScriptLine) → IsFirstUnchecked scripts line → ⊥
none_first line first =
    let is : is_unchecked line ≡ false = among (λ l. is_unchecked l ≡ false) first.earlier first.later line (subst (AllByRecursion (λ l. is_unchecked l ≡ false)) first.lines checked) in
    let both : true ≡ false = sym first.unchecked ∙ is in
    cc

pub memory_1 : is_memory_answer told_1.answer ≡ false
unfolding has_exactly least_unknown
memory_1 = refl

pub memory_2 : is_memory_answer told_2.answer ≡ false
unfolding has_exactly least_unknown
memory_2 = refl

pub memory_3 : is_memory_answer told_3.answer ≡ false
unfolding has_exactly least_unknown
memory_3 = refl

no_memory : (t : Told) → Contains told_all t → is_memory_answer t.answer ≡ false
no_memory t (zero, low, is) = ap (λ (u : Told). is_memory_answer u.answer) (sym is) ∙ memory_1
no_memory t (suc zero, low, is) = ap (λ (u : Told). is_memory_answer u.answer) (sym is) ∙ memory_2
no_memory t (suc (suc zero), low, is) = ap (λ (u : Told). is_memory_answer u.answer) (sym is) ∙ memory_3
no_memory t (suc (suc (suc k)), low, is) = absurd (omega (arith, low))

is_checked : IsChecked scripts transcript
is_checked line (by_script first) = none_first line first
is_checked line (by_memory all off) = uncut scripts transcript told_all is_cut no_memory line off

-- {"events":2,"legal":true}
pub fits_verdict : IsVerdict scripts transcript (yes 2)
fits_verdict = is_yes is_checked row_fits
