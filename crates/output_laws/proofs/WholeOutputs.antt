-- The answers of an output read back, it fits, and what it prints is answered yes.
use Rattle.std.proofs.Common.{ℕ, List, length}
use Rattle.history.specs.Answers.{Answer}
use Rattle.history.specs.History.{History}
use Rattle.transcript_laws.specs.Fitting.{Fits}
use Rattle.transcript_laws.specs.Outputs.{ArePrintable, AreFew, IsOutput, text_of_logs}
use Rattle.transcript_laws.specs.Verdicts.{IsVerdict, yes}
use Rattle.output_laws.proofs.SpecTexts.{specs_texts}
use Rattle.output_laws.proofs.TextSpecs.{specs_printable, specs_fit, specs_yes}

pub outputs_printable : (scripts : List (List ℕ)) (history : History) (logs : List (List Answer)) → IsOutput scripts history logs → AreFew scripts history → ArePrintable logs
outputs_printable = specs_printable specs_texts

pub outputs_fit : (scripts : List (List ℕ)) (history : History) (logs : List (List Answer)) → IsOutput scripts history logs → AreFew scripts history → Fits scripts (text_of_logs logs) history
outputs_fit = specs_fit specs_texts

pub outputs_yes : (scripts : List (List ℕ)) (history : History) (logs : List (List Answer)) → IsOutput scripts history logs → AreFew scripts history → IsVerdict scripts (text_of_logs logs) (yes (length history))
outputs_yes = specs_yes specs_texts
