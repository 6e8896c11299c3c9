-- The answers of an output read back, where what is said of Specs is UTF-8.
use Rattle.std.proofs.Common.{◌+◌, ◌<◌, ◌^◌, arith, ℕ, Bool, true, false, cond, List, [], ◌∷◌, length, map, Some, None}
use Rattle.std.specs.List.{AllByRecursion}
use Rattle.script_lines.specs.Script.{lines_of, is_blank}
use Rattle.history.specs.Answers.{Answer}
use Rattle.history.specs.History.{History}
use Rattle.transcript_laws.specs.Meanings.{line_of_bytes, asked_line}
use Rattle.transcript_laws.specs.Outputs.{scripts_of, text_of_logs, ArePrintable, AreFew, IsOutput}
use Rattle.transcript_laws.specs.Fitting.{Fits}
use Rattle.transcript_laws.specs.Transcript.{mount}
use Rattle.transcript_laws.specs.Verdicts.{IsVerdict, yes}
use Rattle.transcript_laws.proofs.Fit.{fit_where_printable}
use Rattle.transcript_laws.proofs.Yes.{outputs_are_yes}
use Rattle.output_laws.specs.TextSpecs.{SpecsAreTexts}
use Rattle.output_laws.proofs.SmallForms.{SpecsAreSmall, bytes_small}
use Rattle.output_laws.proofs.SmallOutputs.{AreSmallLines}
use Rattle.output_laws.proofs.SmallPlans.{specs_small}
use Rattle.output_laws.proofs.TextOutputs.{size_of_lines, script_size, small_lines_printable}

-- what scripts ask is small
lines_small : SpecsAreSmall → (lines : List (List ℕ)) → size_of_lines lines < 2 ^ 64 + 1 → AreSmallLines (map (asked_line (mount ∷ [])) lines)
lines_small specs [] low = tt
lines_small specs (bytes ∷ lines) low = by (is_blank bytes) (lines_small specs lines (omega (arith, low)))
  where
    by : (b : Bool) → AreSmallLines (map (asked_line (mount ∷ [])) lines) → AreSmallLines (cond b None (Some (line_of_bytes (mount ∷ []) bytes)) ∷ map (asked_line (mount ∷ [])) lines)
    by true rest = rest
    by false rest = (bytes_small specs bytes (omega (arith, low)), rest)

scripts_small : SpecsAreSmall → (scripts : List (List ℕ)) → AllByRecursion (λ (script : List ℕ). length script < 2 ^ 64) scripts → AllByRecursion AreSmallLines (scripts_of scripts)
scripts_small specs [] low = tt
scripts_small specs (script ∷ scripts) low = (let size = script_size script in let few = low.0 in lines_small specs (lines_of script) (omega (arith, size, few)), scripts_small specs scripts low.1)

-- answers of an output read back
pub specs_printable : SpecsAreTexts → (scripts : List (List ℕ)) (history : History) (logs : List (List Answer)) → IsOutput scripts history logs → AreFew scripts history → ArePrintable logs
specs_printable texts scripts history logs is few = small_lines_printable scripts history logs is few (scripts_small (specs_small texts) scripts few.bytes)

pub specs_fit : SpecsAreTexts → (scripts : List (List ℕ)) (history : History) (logs : List (List Answer)) → IsOutput scripts history logs → AreFew scripts history → Fits scripts (text_of_logs logs) history
specs_fit texts = fit_where_printable (specs_printable texts)

pub specs_yes : SpecsAreTexts → (scripts : List (List ℕ)) (history : History) (logs : List (List Answer)) → IsOutput scripts history logs → AreFew scripts history → IsVerdict scripts (text_of_logs logs) (yes (length history))
specs_yes texts scripts history logs is few = outputs_are_yes scripts history logs is (specs_printable texts scripts history logs is few)
