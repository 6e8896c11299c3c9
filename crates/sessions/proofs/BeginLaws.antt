-- Rows of begin and abort.
use Rattle.std.proofs.Common.{◌≡◌, ℕ, true, false, [], Option, Some, None, refl, sym, subst, is_some, is_none}
use Rattle.session_turns.specs.declared.Body.TheVariants as body
use Rattle.history.specs.declared.event.Mode.{Mode}
use Rattle.history.specs.Answers as old
use Rattle.history.specs.Lines.{beginning, aborting}
use Rattle.history.specs.Sessions.{Names}
use Rattle.history.specs.Steps.{done_line, refused_line, begin_done, abort_done}
use Rattle.session_turns.specs.Standing.{session_state, transaction_in}
use Rattle.session_turns.specs.Told.{IsToldAlone}
use Rattle.session_turns.specs.Txn.{TxnSeen}

-- where a transaction stands none is begun
pub told_standing : (line : ℕ) (mode : Mode) (t : Option TxnSeen) → is_some t ≡ true → (names : Names) (seen : ℕ) → IsToldAlone (session_state names seen t) line (beginning mode) names (transaction_in t) body.InTransaction
told_standing line mode None e = absurd (let no_such : ⊥ = cc in no_such)
told_standing line mode (Some t) e = λ names seen fixed owner events. record { body = old.in_transaction; printed = refl; row = refused_line }

-- where none stands one is
pub told_begun : (line : ℕ) (mode : Mode) (t : Option TxnSeen) (new : TxnSeen) → is_some t ≡ false → new ≡ record { line = line; mode = mode; ops = []; staged = []; kept = [] }
    → (names : Names) (seen : ℕ) → IsToldAlone (session_state names seen t) line (beginning mode) names (transaction_in (Some new)) body.Begun
told_begun line mode (Some t) new e is = absurd (let no_such : ⊥ = cc in no_such)
told_begun line mode None new e is = λ names seen.
    subst (λ n. IsToldAlone (session_state names seen None) line (beginning mode) names (transaction_in (Some n)) body.Begun) (sym is) (λ fixed owner events. record { body = old.begun; printed = refl; row = done_line begin_done })

-- where none stands none is ended
pub told_none : (line : ℕ) (t : Option TxnSeen) → is_none t ≡ true → (names : Names) (seen : ℕ) → IsToldAlone (session_state names seen t) line aborting names (transaction_in t) body.NoTransaction
told_none line (Some t) e = absurd (let no_such : ⊥ = cc in no_such)
told_none line None e = λ names seen fixed owner events. record { body = old.no_transaction; printed = refl; row = refused_line }

-- one that stands is
pub told_aborted : (line : ℕ) (t : Option TxnSeen) → is_none t ≡ false → (names : Names) (seen : ℕ) → IsToldAlone (session_state names seen t) line aborting names None body.Aborted
told_aborted line None e = absurd (let no_such : ⊥ = cc in no_such)
told_aborted line (Some t) e = λ names seen fixed owner events. record { body = old.aborted; printed = refl; row = done_line abort_done }
