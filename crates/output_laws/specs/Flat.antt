-- Answers whose values are along few dimensions.
use Rattle.std.specs.Prelude.{◌≤◌, ℕ, List, length}
use Rattle.std.specs.List.{AllByRecursion}
use Rattle.history.specs.Answers as body
use Rattle.history.specs.Answers.{Answer, Body}
use Rattle.history.specs.History.{History}
use Rattle.transcript_laws.specs.Outputs.{IsOutput}

-- values are along at most 32 dimensions
abbrev pub IsFlat : Body → Type 0
IsFlat (body.values origin shape dtype words) = length shape ≤ 32
IsFlat answer = Unit {0}

-- so are those that logs print
abbrev pub AreFlat : List (List Answer) → Type 0
AreFlat logs = AllByRecursion (AllByRecursion (λ (a : Answer). IsFlat a.body)) logs

-- the values of logs of sessions that ran all lines of checked scripts over a legal history are along at most 32 dimensions
abbrev pub OutputsAreFlat : Type 0
OutputsAreFlat = (scripts : List (List ℕ)) (history : History) (logs : List (List Answer)) → IsOutput scripts history logs → AreFlat logs
