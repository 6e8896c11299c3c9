-- What the answers of an output are, whoever printed them.
use Rattle.std.specs.Prelude.{ℕ, List, length}
use Rattle.history.specs.Answers.{Answer}
use Rattle.history.specs.History.{History}
use Rattle.transcript_laws.specs.Outputs.{IsOutput, AreFew, text_of_logs}
use Rattle.transcript_laws.specs.Verdicts.{IsVerdict, yes}

-- the right verdict on what an output prints is yes, by the events that there are, where there are few events and bytes
abbrev pub FewOutputsAreYes : Type 0
FewOutputsAreYes = (scripts : List (List ℕ)) (history : History) (logs : List (List Answer))
    → IsOutput scripts history logs → AreFew scripts history → IsVerdict scripts (text_of_logs logs) (yes (length history))
