-- What a session has between two lines, as the history speaks of it.
use Rattle.std.specs.Prelude.{ℕ, Option, Some, None}
use Rattle.history.specs.Commit.{Transaction}
use Rattle.history.specs.Sessions.{Names, SessionState}
use Rattle.transactions.specs.Txn.{TxnSeen, transaction_of}
-- names of views, given on
pub use Rattle.line_acts.specs.Bound.{AreViews}

-- the transaction that stands, if one does
abbrev pub transaction_in : Option TxnSeen → Option Transaction
transaction_in None = None
transaction_in (Some t) = Some (transaction_of t)

-- these names, so many events seen, and this transaction
abbrev pub session_state : Names → ℕ → Option TxnSeen → SessionState
session_state names seen t = record { names = names; seen = seen; transaction = transaction_in t }
