-- A transaction that may be committed.
use Rattle.history.specs.History.{History}
use Rattle.state_laws.specs.Agreement.{Opening}
use Rattle.session_turns.specs.Conditions.{IsTxnIn}
use Rattle.session_turns.specs.Recording.{IsRecorded}
use Rattle.session_turns.specs.Txn.{TxnSeen, transaction_of}

-- what is staged and kept is right beside these events, and what its commit asks for is recorded
pub record IsReady (opening : Opening) (events : History) (t : TxnSeen) : Type 0 where
  pub right : IsTxnIn opening events t
  pub recorded : IsRecorded opening events (transaction_of t)
