-- What a session answers to a line that commits, and what its transaction has recorded for that.
use Rattle.std.specs.Prelude.{◌≡◌, ◌≢◌, ℕ, List, length, Option, Some, None, Result, Ok, Err}
use Rattle.session_turns.specs.declared.Body.{Body}
use Rattle.session_turns.specs.declared.Body.TheVariants.{Memory}
use Rattle.session_turns.specs.CommitAnswers as commit
use Rattle.session_turns.specs.declared.CommitRefused.{CommitRefused}
use Rattle.history.specs.declared.event.Event.{Event}
use Rattle.history.specs.Commit.{Transaction}
use Rattle.history.specs.History.{History}
use Rattle.history.specs.Lines.{committing}
use Rattle.history.specs.Sessions.{Names}
use Rattle.session_turns.specs.Bodies.{body_of}
use Rattle.session_turns.specs.Standing.{session_state, transaction_in}
use Rattle.session_turns.specs.Told.{IsToldBy}
use Rattle.session_turns.specs.Agreement.{Opening}
use Rattle.session_turns.specs.Committing.{HasCommitted, left_after}
use Rattle.session_turns.specs.Conditions.{IsTxnIn}
use Rattle.session_turns.specs.Recording.{IsRecorded}
use Rattle.session_turns.specs.Txn.{TxnSeen, transaction_of}
use Rattle.turn_book.specs.Passes.{BookView, PassView}

-- where a transaction stands, what is staged and kept is right beside these events, and what its commit asks for is recorded
abbrev pub HasSoundTxn : Opening → History → Option TxnSeen → Type 0
HasSoundTxn opening events None = Unit {0}
HasSoundTxn opening events (Some t) = IsTxnIn opening events t × IsRecorded opening events (transaction_of t)

-- the transaction that stands behind its commit
abbrev pub left_behind : TxnSeen → Result (List ℕ) CommitRefused → Option TxnSeen
left_behind t (Ok numbers) = None
left_behind t (Err why) = left_after t why

-- a transaction was committed or refused, which is printed, and left behind what its commit leaves
pub record IsCommittedAs (book : BookView Opening) (old new : PassView Event Opening) (t : TxnSeen) (left : Option TxnSeen) (answer : Body) : Type 0 where
  pub result : Result (List ℕ) CommitRefused
  pub committed : HasCommitted book old new (transaction_of t) result
  pub printed : answer ≡ body_of (commit.body_of result)
  pub stands : left ≡ left_behind t result

-- whatever the names, the answer to a commit is that of a row over what the pass has seen in the end; the transaction that stands is the
-- row's, but behind want of memory, after which nobody goes on
pub record IsCommitTold (book : BookView Opening) (old new : PassView Event Opening) (t later : Option TxnSeen) (answer : Body) : Type 0 where
  pub left : Option Transaction
  pub told : (names : Names) (line : ℕ) → IsToldBy book old new (session_state names (length old.seen) t) line committing names left answer
  pub stands : answer ≢ Memory → left ≡ transaction_in later
