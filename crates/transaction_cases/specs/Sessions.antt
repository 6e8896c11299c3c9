-- A session before its first line, and between two.
use Rattle.std.specs.Prelude.{◌≡◌, ℕ, [], Bool, false, Option}
use Rattle.history.specs.declared.event.Event.{Event}
use Rattle.history.specs.Sessions.{Names}
use Rattle.session_runs.specs.Session.{SessionSeen, IsSessionOn, MayGoOn}
use Rattle.session_runs.specs.Turns.{IsRested}
use Rattle.state_laws.specs.Agreement.{Opening}
use Rattle.session_runs.specs.Txn.{TxnSeen}
use Rattle.turn_book.specs.Passes.{BookView, PassView}

-- the session of this number was given no line yet
pub record IsFresh (book : BookView Opening) (k : ℕ) (s : SessionSeen) : Type 0 where
  pub number : s.pass.number ≡ k
  pub going : s.ended ≡ false
  pub on : IsSessionOn book s []

-- the pass of the session of this number rests, and where the session hasn't ended it may be given a line
pub record IsBetween (book : BookView Opening) (k : ℕ) (pass : PassView Event Opening) (names : Names) (t : Option TxnSeen) (ended : Bool) : Type 0 where
  pub number : pass.number ≡ k
  pub rested : IsRested book pass
  pub on : ended ≡ false → MayGoOn book pass names t
