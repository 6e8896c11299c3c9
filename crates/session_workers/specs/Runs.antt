-- Logs that are printed ones of a run of several sessions.
use Rattle.std.specs.Prelude.{◌≡◌, ℕ, List, map}
use Rattle.answer_text.specs.declared.answer.Answer.{Answer}
use Rattle.history.specs.Answers as old
use Rattle.history.specs.Commit.{Fixed}
use Rattle.history.specs.History.{History}
use Rattle.session_runs.specs.Bodies.{answer_of}
use Rattle.serial_runs.specs.Runs.{AreLogs}
use Rattle.session_runs.specs.Scripts.{asked_by}

-- these logs are printed ones of sessions that ran the scripts, or some first lines of theirs, over this history, with these names of mounts
pub record ArePrinted (fixed : Fixed) (mounts scripts : List (List ℕ)) (history : History) (logs : List (List Answer)) : Type 0 where
  pub answers : List (List old.Answer)
  pub printed : logs ≡ map (map answer_of) answers
  pub are : AreLogs fixed history (map (asked_by mounts) scripts) answers
