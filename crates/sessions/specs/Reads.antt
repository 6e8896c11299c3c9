-- What a session answers to a line that reads, and what its transaction is then.
use Rattle.std.specs.Prelude.{◌≡◌, ◌≢◌, ◌⊎◌, ℕ, List, [], length, Option, None}
use Rattle.session_turns.specs.declared.Body.{Body}
use Rattle.session_turns.specs.declared.Body.TheVariants.{StoreFailed, Shrunk, Memory}
use Rattle.history.specs.declared.event.Event.{Event}
use Rattle.history.specs.Acts.{Asked, without}
use Rattle.history.specs.Commit.{Transaction}
use Rattle.history.specs.Lines.{Downsampling, Line}
use Rattle.history.specs.Sessions.{Names}
use Rattle.history.specs.Viewing.{cell_fault, values_body}
use Rattle.session_turns.specs.Bodies.{body_of}
use Rattle.session_turns.specs.Causes.{damage_body}
use Rattle.session_turns.specs.Standing.{session_state, transaction_in}
use Rattle.session_turns.specs.Told.{IsAnswerTo, IsToldBy}
use Rattle.stack_driver.specs.declared.view.View.{View}
use Rattle.session_turns.specs.Agreement.{Opening}
use Rattle.session_turns.specs.Faults.{IsFaultOf}
use Rattle.session_turns.specs.Reading.{HasRead, IsFoundUnless, IsReadError}
use Rattle.session_turns.specs.TxnTurns.{HasPassed}
use Rattle.session_turns.specs.Txn.{TxnSeen}
use Rattle.session_turns.specs.declared.ReadError.{ReadError}
use Rattle.session_turns.specs.declared.ReadError.TheVariants as read
use Rattle.turn_book.specs.Passes.{BookView, PassView}

-- where the view is refused for it, this is wrong with it
abbrev pub IsViewFault : View → ReadError → Type 0
IsViewFault v (read.View fault) = IsFaultOf v fault
IsViewFault v (read.StoreFailed event) = Unit {0}
IsViewFault v (read.Damaged key cause) = Unit {0}
IsViewFault v (read.Shrunk key now) = Unit {0}
IsViewFault v read.Memory = Unit {0}

-- the answer where a view isn't read
abbrev pub IsUnread : View → ReadError → Body → Type 0
IsUnread v (read.View fault) answer = (next : Asked) → IsAnswerTo (without (cell_fault v) next) answer
IsUnread v (read.StoreFailed event) answer = answer ≡ StoreFailed event [] None
IsUnread v (read.Damaged key cause) answer = answer ≡ damage_body key cause
IsUnread v (read.Shrunk key now) answer = answer ≡ Shrunk key now
IsUnread v read.Memory answer = answer ≡ Memory

-- a view was read, and its words are printed, or memory was wanting for that
pub record IsReadAs (book : BookView Opening) (old new : PassView Event Opening) (t later : TxnSeen) (v : View) (down : Option Downsampling) (answer : Body) : Type 0 where
  pub words : List ℕ
  pub read : HasRead book.fixed (length old.seen) new.seen t later v words
  pub passed : HasPassed book old new []
  pub printed : (answer ≡ body_of (values_body v down words)) ⊎ (answer ≡ Memory)

-- it wasn't, which is told, and the transaction is as it was
pub record IsRefusedRead (book : BookView Opening) (old new : PassView Event Opening) (t later : TxnSeen) (v : View) (answer : Body) : Type 0 where
  pub error : ReadError
  pub why : IsReadError book old new t v error
  pub found : IsFoundUnless v error
  pub told : IsUnread v error answer
  pub same : later ≡ t

-- one of these
abbrev pub IsAnsweredRead : BookView Opening → PassView Event Opening → PassView Event Opening → TxnSeen → TxnSeen → View → Option Downsampling → Body → Type 0
IsAnsweredRead book old new t later v down answer = IsReadAs book old new t later v down answer ⊎ IsRefusedRead book old new t later v answer

-- the answer to a line is that of a row over what the pass has seen in the end; the transaction that stands is the row's, but behind want
-- of memory, after which nobody goes on
pub record IsReadTold (book : BookView Opening) (old new : PassView Event Opening) (names : Names) (t later : Option TxnSeen) (line : ℕ) (asked : Line) (answer : Body) : Type 0 where
  pub left : Option Transaction
  pub told : IsToldBy book old new (session_state names (length old.seen) t) line asked names left answer
  pub stands : answer ≢ Memory → left ≡ transaction_in later
