-- What logs print fits their scripts.
use Rattle.std.proofs.Common.{ℕ, List}
use Rattle.history.specs.Answers.{Answer}
use Rattle.history.specs.History.{History}
use Rattle.transcript_laws.specs.Claimed.{IsClaimed}
use Rattle.transcript_laws.specs.Fitting.{IsAnswered, Fits}
use Rattle.transcript_laws.proofs.Laws.{part_5_follows}
use Rattle.transcript_laws.specs.Outputs.{text_of_logs, ArePrintable, AreFew, IsOutput, OutputsArePrintable, told_of_output}
use Rattle.transcript_laws.proofs.Answered.{answered_where_words}
use Rattle.transcript_laws.proofs.Claims.{stated_where_words}
use Rattle.transcript_laws.proofs.Cut.{outputs_are_cut}
use Rattle.transcript_laws.proofs.Numbered.{outputs_are_numbered}
use Rattle.transcript_laws.proofs.Words.{outputs_have_words}

-- part 3
pub outputs_state : (scripts : List (List ℕ)) (history : History) (logs : List (List Answer)) → IsOutput scripts history logs → IsClaimed (told_of_output scripts logs) history
outputs_state scripts history logs is = stated_where_words scripts history logs is (outputs_have_words scripts history logs is)

-- part 4
pub outputs_are_answered : (scripts : List (List ℕ)) (history : History) (logs : List (List Answer)) → IsOutput scripts history logs → IsAnswered (told_of_output scripts logs) history
outputs_are_answered scripts history logs is = answered_where_words scripts history logs is (outputs_have_words scripts history logs is)

-- all parts, where answers read back
pub printable_outputs_fit : (scripts : List (List ℕ)) (history : History) (logs : List (List Answer)) → IsOutput scripts history logs → ArePrintable logs → Fits scripts (text_of_logs logs) history
printable_outputs_fit scripts history logs is printable =
    let answered = outputs_are_answered scripts history logs is in
    record {
      told = told_of_output scripts logs;
      cut = outputs_are_cut scripts history logs is printable;
      fit = record {
        numbered = outputs_are_numbered scripts history logs is;
        claimed = outputs_state scripts history logs is;
        answered = answered;
        plain = part_5_follows (told_of_output scripts logs) history answered;
      };
    }

-- so what is left to show is that they read back
pub fit_where_printable : OutputsArePrintable → (scripts : List (List ℕ)) (history : History) (logs : List (List Answer)) → IsOutput scripts history logs → AreFew scripts history → Fits scripts (text_of_logs logs) history
fit_where_printable printable scripts history logs is few = printable_outputs_fit scripts history logs is (printable scripts history logs is few)
