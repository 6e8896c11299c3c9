-- What a run prints fits.
use Rattle.std.specs.Prelude.{◌≡◌, ◌<◌, ◌^◌, ℕ, ◌+◌, List, [], ◌∷◌, ◌++◌, length, map, All, Option, Some, None, false}
use Rattle.std.specs.List.{flat_map, AllByRecursion}
use Rattle.std.specs.FinMap as finmap
use Rattle.answer_data.specs.Text.{answer_text}
use Rattle.answer_data.specs.Answers.{answer_data}
use Rattle.answer_data.specs.Printable.{IsPrintable}
use Rattle.cells.specs.Numbers.{IsWord}
use Rattle.cells.specs.Places.{cell_count}
use Rattle.history.specs.Alone.{single_store}
use Rattle.history.specs.Answers as body
use Rattle.history.specs.Answers.{Answer, Body}
use Rattle.history.specs.History.{History}
use Rattle.history.specs.Legal.{IsLegal}
use Rattle.history.specs.Lines.{Line}
use Rattle.history.specs.Steps.{is_memory}
use Rattle.line_meanings.specs.Bodies.{answer_of, text_of}
use Rattle.line_meanings.specs.Meanings.{asked_by}
use Rattle.serial_runs.specs.Runs.{Script, AreLogs, AreWholeLogs}
use Rattle.transcript_laws.specs.Transcript.{mount, Told, IsCut}
use Rattle.transcript_laws.specs.Numbers.{AreNumbered}
use Rattle.transcript_laws.specs.Claimed.{IsClaimed}
use Rattle.transcript_laws.specs.Fitting.{IsAnswered, Fits}
use Rattle.transcript_laws.specs.Unchecked.{AreChecked}
use Rattle.transcript_laws.specs.Verdicts.{IsVerdict, yes}

-- what all scripts ask for
abbrev pub scripts_of : List (List ℕ) → List Script
scripts_of scripts = map (asked_by (mount ∷ [])) scripts

-- what logs print, one after another
abbrev pub text_of_logs : List (List Answer) → List ℕ
text_of_logs logs = flat_map text_of logs

-- the logs are those of sessions that ran all lines of the scripts over a legal history, which began over an empty
-- store that makes all changes together and whose events are theirs; no answer is want of memory, and all lines are
-- checked
pub record IsOutput (scripts : List (List ℕ)) (history : History) (logs : List (List Answer)) : Type 0 where
  pub legal : IsLegal finmap.empty history
  pub sessions : AreLogs (single_store mount) history (scripts_of scripts) logs
  pub whole : AreWholeLogs (scripts_of scripts) logs
  pub memory : AllByRecursion (AllByRecursion (λ (a : Answer). is_memory a.body ≡ false)) logs
  pub checked : AreChecked scripts

-- the number of events is below 2^64, and so is that of each script's bytes, and with it those of lines and of steps
pub record AreFew (scripts : List (List ℕ)) (history : History) : Type 0 where
  pub events : length history < 2 ^ 64
  pub bytes : AllByRecursion (λ (script : List ℕ). length script < 2 ^ 64) scripts

-- each answer that is printed reads back: its texts are UTF-8, its numbers take 64 bits, and it nests no deeper than
-- JSON may
abbrev pub ArePrintable : List (List Answer) → Type 0
ArePrintable logs = AllByRecursion (AllByRecursion (λ (a : Answer). IsPrintable (answer_of a))) logs

-- values have a word of their dtype for each cell of their shape
abbrev pub HasWords : Body → Type 0
HasWords (body.values origin shape dtype words) = (length words ≡ cell_count shape) × All (IsWord dtype) words
HasWords answer = Unit {0}

-- so do those that logs print
abbrev pub HaveWords : List (List Answer) → Type 0
HaveWords logs = AllByRecursion (AllByRecursion (λ (a : Answer). HasWords a.body)) logs

-- an answer to a line of a session, as a transcript tells it
abbrev pub told_answer : ℕ → ℕ → Line → Answer → Told
told_answer session number asked a = record {
  session = session;
  number = number;
  asked = asked;
  text = answer_text (answer_of a);
  answer = answer_data (answer_of a);
}

-- the answers of a log, each to the line that isn't blank; the first line has the number n
abbrev pub told_log : ℕ → ℕ → Script → List Answer → List Told
told_log session n [] log = []
told_log session n (None ∷ lines) log = told_log session (n + 1) lines log
told_log session n (Some asked ∷ lines) [] = []
told_log session n (Some asked ∷ lines) (a ∷ log) =
    told_answer session n asked a ∷ told_log session (n + 1) lines log

-- the answers of all logs, session by session, the first script being that of this session
abbrev pub told_logs : ℕ → List Script → List (List Answer) → List Told
told_logs session [] logs = []
told_logs session (script ∷ scripts) [] = []
told_logs session (script ∷ scripts) (log ∷ logs) =
    told_log session 1 script log ++ told_logs (session + 1) scripts logs

-- the logs' answers, as a transcript tells them
abbrev pub told_of_output : List (List ℕ) → List (List Answer) → List Told
told_of_output scripts logs = told_logs 0 (scripts_of scripts) logs

-- part 1: what is printed is cut into the logs' answers
abbrev pub OutputsAreCut : Type 0
OutputsAreCut = (scripts : List (List ℕ)) (history : History) (logs : List (List Answer))
    → IsOutput scripts history logs → ArePrintable logs
    → IsCut scripts (text_of_logs logs) (told_of_output scripts logs)

-- part 2: the logs' answers print the number of each event once, and those of a session rise
abbrev pub OutputsAreNumbered : Type 0
OutputsAreNumbered = (scripts : List (List ℕ)) (history : History) (logs : List (List Answer))
    → IsOutput scripts history logs → AreNumbered (told_of_output scripts logs)

-- part 3: the logs' answers state the history
abbrev pub OutputsState : Type 0
OutputsState = (scripts : List (List ℕ)) (history : History) (logs : List (List Answer))
    → IsOutput scripts history logs → IsClaimed (told_of_output scripts logs) history

-- part 4: each of the logs' answers is one that its line may have
abbrev pub OutputsAreAnswered : Type 0
OutputsAreAnswered = (scripts : List (List ℕ)) (history : History) (logs : List (List Answer))
    → IsOutput scripts history logs → IsAnswered (told_of_output scripts logs) history

-- the values of such logs have a word of their dtype for each cell
abbrev pub OutputsHaveWords : Type 0
OutputsHaveWords = (scripts : List (List ℕ)) (history : History) (logs : List (List Answer))
    → IsOutput scripts history logs → HaveWords logs

-- such logs fit, where their answers read back
abbrev pub PrintableOutputsFit : Type 0
PrintableOutputsFit = (scripts : List (List ℕ)) (history : History) (logs : List (List Answer))
    → IsOutput scripts history logs → ArePrintable logs → Fits scripts (text_of_logs logs) history

-- such logs are answered yes, by as many events as there are, where their answers read back
abbrev pub OutputsAreYes : Type 0
OutputsAreYes = (scripts : List (List ℕ)) (history : History) (logs : List (List Answer))
    → IsOutput scripts history logs → ArePrintable logs → IsVerdict scripts (text_of_logs logs) (yes (length history))

-- the answers of such logs read back, where there are few events and bytes
abbrev pub OutputsArePrintable : Type 0
OutputsArePrintable = (scripts : List (List ℕ)) (history : History) (logs : List (List Answer))
    → IsOutput scripts history logs → AreFew scripts history → ArePrintable logs

-- such logs fit, where there are few events and bytes
abbrev pub OutputsFit : Type 0
OutputsFit = (scripts : List (List ℕ)) (history : History) (logs : List (List Answer))
    → IsOutput scripts history logs → AreFew scripts history → Fits scripts (text_of_logs logs) history
