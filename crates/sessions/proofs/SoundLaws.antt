-- Transactions that are right and recorded.
use Rattle.std.proofs.Common.{ℕ, [], Some, refl}
use Rattle.std.specs.FinMap as finmap
use Rattle.history.specs.declared.event.Mode.{Mode}
use Rattle.history.specs.History.{History}
use Rattle.history.specs.Legal.{IsLegal}
use Rattle.sessions.specs.Commits.{HasSoundTxn}
use Rattle.session_turns.specs.Agreement.{Opening}
use Rattle.session_turns.specs.Outline.{outline}
use Rattle.session_turns.proofs.Laws.{none_staged}
use Rattle.session_turns.specs.Txn.{TxnSeen, transaction_of}
use Rattle.session_turns.proofs.Laws.{recorded_begun}

-- one that is begun is both
pub sound_begun : (opening : Opening) (events : History) (line : ℕ) (mode : Mode) → IsLegal finmap.empty (outline events) → HasSoundTxn opening events (Some (record { line = line; mode = mode; ops = []; staged = []; kept = [] }))
sound_begun opening events line mode legal =
    let begun : TxnSeen = record { line = line; mode = mode; ops = []; staged = []; kept = [] } in
    (record { outline = legal; known = tt; staged = none_staged events; kept = tt }, recorded_begun opening events (transaction_of begun) refl refl)
