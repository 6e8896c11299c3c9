-- What a program's logs print.
use Rattle.std.specs.Prelude.{ℕ, List, length, map}
use Rattle.history.specs.Answers as plain
use Rattle.history.specs.History.{History}
use Rattle.transcript_laws.specs.Bodies.{answer_of}
use Rattle.transcript_laws.specs.Outputs.{IsOutput, text_of_logs}
use Rattle.transcript_laws.specs.Verdicts.{IsVerdict, yes}
use Rattle.output_laws.specs.Typed.{AreTyped}

-- where the printed answers are such as their type says, the right verdict on what they print is yes, by the events that there are
abbrev pub PrintedOutputsAreYes : Type 0
PrintedOutputsAreYes = (scripts : List (List ℕ)) (history : History) (logs : List (List plain.Answer))
    → IsOutput scripts history logs → AreTyped (map (map answer_of) logs) → IsVerdict scripts (text_of_logs logs) (yes (length history))
