-- A log whose lines are answered for their causes, whatever the stores tell.
use Rattle.std.specs.Prelude.{◌≡◌, ℕ, ◌+◌, List, [], ◌++◌, length, drop, Option}
use mathlib.Core.List.{IsPrefix}
use Rattle.answer_text.specs.declared.answer.Answer.{Answer}
use Rattle.history.specs.Commit.{Fixed}
use Rattle.history.specs.History.{History}
use Rattle.history.specs.Lines.{Line}
use Rattle.history.specs.Own.{own_events}
use Rattle.history.specs.Sessions.{SessionState}
use Rattle.session_runs.specs.Causes.{AreCaused}
use Rattle.session_runs.specs.Scripts.{asked_by}

-- the session of this number was given the first lines of its script, each was answered for its cause over what was seen of the history,
-- and no event behind that is the session's
pub record IsCausedLog (fixed : Fixed) (mounts : List (List ℕ)) (history : History) (number : ℕ) (script : List ℕ) (log : List Answer) : Type 0 where
  pub given : List (Option Line)
  pub left : List (Option Line)
  pub parts : asked_by mounts script ≡ given ++ left
  pub seen : History
  pub within : IsPrefix seen history
  pub last : Option SessionState
  pub are : AreCaused fixed number given log seen last
  pub no_more : own_events number (length seen + 1) (drop (length seen) history) ≡ []
