-- What a session answers to a line that writes outside of a transaction.
use Rattle.std.specs.Prelude.{◌≡◌, ℕ, List, Result}
use Rattle.session_turns.specs.declared.Body.{Body}
use Rattle.session_turns.specs.CommitAnswers as commit
use Rattle.session_turns.specs.declared.CommitRefused.{CommitRefused}
use Rattle.history.specs.declared.event.Event.{Event}
use Rattle.history.specs.Commit.{Transaction}
use Rattle.history.specs.Steps.{as_written}
use Rattle.session_turns.specs.Bodies.{body_of}
use Rattle.session_turns.specs.Agreement.{Opening}
use Rattle.session_turns.specs.Committing.{HasCommitted}
use Rattle.turn_book.specs.Passes.{BookView, PassView}

-- a transaction was committed or refused, which is printed as of a write of so many cells
pub record IsWrittenAs (book : BookView Opening) (old new : PassView Event Opening) (t : Transaction) (cells : ℕ) (answer : Body) : Type 0 where
  pub result : Result (List ℕ) CommitRefused
  pub committed : HasCommitted book old new t result
  pub printed : answer ≡ body_of (as_written cells (commit.body_of result))
