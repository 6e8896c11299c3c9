-- The lines of a script are the script, cut at its LFs.
use Rattle.std.proofs.Common.{◌≡◌, ℕ, List, [], ◌∷◌, Bool, true, false, cond, eqb, refl}
use Rattle.std.specs.List.{AllByRecursion, list_any, join_with_byte, onto_first}
use Rattle.std.proofs.lemmas.List.Splits.{join_with_byte-slice_split}
use Rattle.script_lines.specs.Script.{lines_of}

-- joined by LFs, the lines are the script again
pub join_with_byte-lines_of : (script : List ℕ) → join_with_byte 10 (lines_of script) ≡ script
join_with_byte-lines_of script = join_with_byte-slice_split 10 script

abbrev pub has_lf : List ℕ → Bool
has_lf line = list_any (λ b. eqb b 10) line

after_byte : (b : ℕ) (lines : List (List ℕ)) → eqb b 10 ≡ false → AllByRecursion (λ line. has_lf line ≡ false) lines → AllByRecursion (λ line. has_lf line ≡ false) (onto_first b lines)
after_byte b [] other none = (rw other refl, tt)
after_byte b (line ∷ lines) other none = (rw other none.0, none.1)

-- no line has an LF
pub no_lf-lines_of : (script : List ℕ) → AllByRecursion (λ line. has_lf line ≡ false) (lines_of script)
no_lf-lines_of [] = (refl, tt)
no_lf-lines_of (b ∷ script) =
    let step : (t : Bool) → eqb b 10 ≡ t → AllByRecursion (λ line. has_lf line ≡ false) (cond t ([] ∷ lines_of script) (onto_first b (lines_of script))) =
    λ t. elim t as (λ t. eqb b 10 ≡ t → AllByRecursion (λ line. has_lf line ≡ false) (cond t ([] ∷ lines_of script) (onto_first b (lines_of script)))) [ true ↦ λ e. (refl, no_lf-lines_of script) | false ↦ λ e. after_byte b (lines_of script) e (no_lf-lines_of script) ] in
    step (eqb b 10) refl
