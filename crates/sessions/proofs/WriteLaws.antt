-- A write of its own, from its words to its commit.
use Rattle.std.proofs.Common.{◌≡◌, ◌∙◌, ℕ, List, [], ◌∷◌, ◌++◌, length, Some, None, Ok, Err, refl, sym, ap, subst}
use Rattle.std.specs.FinMap as finmap
use Rattle.session_turns.specs.declared.Body.{Body}
use Rattle.session_turns.specs.CommitAnswers as commit
use Rattle.session_turns.specs.declared.CommitRefused.{CommitRefused}
use Rattle.session_turns.specs.declared.CommitRefused.TheVariants as refused
use Rattle.history.specs.declared.event.Event.{Event}
use Rattle.history.specs.declared.event.Op.TheVariants.{Write}
use Rattle.history.specs.Acts.{writes, act_of, without}
use Rattle.history.specs.History.{History}
use Rattle.history.specs.Legal.{IsLegal}
use Rattle.history.specs.Lines.{Line}
use Rattle.history.specs.Sessions.{Names, plain_mode}
use Rattle.history.specs.Staged.{IsStaged}
use Rattle.history.specs.Steps.{write_alone, as_written}
use Rattle.history.specs.Viewing.{cell_fault}
use Rattle.session_turns.specs.Turns.{IsRested, HasPassed}
use Rattle.sessions.specs.Commits.{HasSoundTxn}
use Rattle.session_turns.specs.Standing.{session_state}
use Rattle.session_turns.specs.Told.{IsToldBy}
use Rattle.sessions.specs.Writes.{IsWrittenAs}
use Rattle.sessions.proofs.CommitRows.{commit_passed, write_told}
use Rattle.stack_driver.specs.Conditions.{IsView}
use Rattle.stack_driver.specs.declared.view.View.{View}
use Rattle.session_turns.specs.Agreement.{Opening}
use Rattle.session_turns.specs.Outline.{outline}
use Rattle.session_turns.proofs.Laws.{none_staged}
use Rattle.session_turns.specs.Committing.{HasCommitted}
use Rattle.session_turns.specs.Conditions.{IsTxnIn}
use Rattle.session_turns.specs.Recording.{IsRecorded}
use Rattle.session_turns.specs.Txn.{TxnSeen, transaction_of}
use Rattle.session_turns.proofs.Laws.{recorded_begun, recorded_written}
use Rattle.turn_book.specs.Passes.{BookView, PassView}

-- a transaction that is begun here
abbrev pub begun_at : ℕ → TxnSeen
begun_at line = record { line = line; mode = plain_mode; ops = []; staged = []; kept = [] }

pub begun_in : (opening : Opening) (events : History) (line : ℕ) → IsLegal finmap.empty (outline events) → IsTxnIn opening events (begun_at line)
begun_in opening events line legal = record { outline = legal; known = tt; staged = none_staged events; kept = tt }

module _ (line : ℕ) (t : TxnSeen) (v : View) (words : List ℕ) (ops : t.ops ≡ Write v words ∷ []) (rest : t ≡ record (begun_at line) { ops = t.ops; staged = t.staged }) where
  -- with one write it is the write's own
  pub is_alone : transaction_of t ≡ write_alone line v words
  is_alone = ap transaction_of rest ∙ ap (λ os. record { line = line; mode = plain_mode; ops = os; marks = [] }) ops

  pub alone_sound : (opening : Opening) (events : History) → IsTxnIn opening events t → IsView v → IsStaged (Write v words) → HasSoundTxn opening events (Some t)
  alone_sound opening events txn view staged = (
    txn,
    subst (λ u. IsRecorded opening events u) (sym is_alone)
        (recorded_written opening events (transaction_of (begun_at line)) v words (recorded_begun opening events (transaction_of (begun_at line)) refl refl) view staged),
  )

-- a refusal is no write
pub as_refused : (cells : ℕ) (why : CommitRefused) → as_written cells (commit.body_of (Err why)) ≡ commit.body_of (Err why)
as_refused cells (refused.Conflict key read now) = refl
as_refused cells (refused.Shrunk key now) = refl
as_refused cells (refused.NotAtomic keys) = refl
as_refused cells (refused.Damaged key cause) = refl
as_refused cells (refused.StoreFailed event done) = refl
as_refused cells refused.Memory = refl

module _ (book : BookView Opening) (old new : PassView Event Opening) (line : ℕ) (v : View) (words : List ℕ) (t : TxnSeen) (alone : transaction_of t ≡ write_alone line v words) (answer : Body) (rested : IsRested book old) (is : IsWrittenAs book old new (transaction_of t) (length words) answer) where
  -- the answer to it, where each cell has a target
  pub written_told : (names : Names) (asked : Line) → cell_fault v ≡ None → act_of names None asked ≡ without (cell_fault v) (Ok (writes v words)) → IsToldBy book old new (session_state names (length old.seen) None) line asked names None answer
  written_told names asked found act =
      subst (IsToldBy book old new (session_state names (length old.seen) None) line asked names None) (sym is.printed)
      (write_told book old new names line asked v words is.result rested (act ∙ ap (λ f. without f (Ok (writes v words))) found)
      (subst (λ u. HasCommitted book old new u is.result) alone is.committed))

  pub written_passed : HasPassed book old new
  written_passed = commit_passed book old new (transaction_of t) is.result rested is.committed

-- the transaction of a write of its own is right and recorded, and each cell has a target
pub begun_sound : (line : ℕ) (old new : TxnSeen) (v : View) (words given : List ℕ) → old ≡ begun_at line → given ≡ words → (new.ops ≡ old.ops ++ Write v given ∷ []) × (new ≡ record old { ops = new.ops; staged = new.staged }) → IsView v → IsStaged (Write v given)
    → (opening : Opening) (events : History) → (IsTxnIn opening events old → IsTxnIn opening events new) → IsLegal finmap.empty (outline events) → HasSoundTxn opening events (Some new)
begun_sound line old new v words given begun same wrote view staged opening events kept legal =
    let ops : new.ops ≡ Write v words ∷ [] = wrote.0 ∙ ap (λ (t : TxnSeen). t.ops ++ Write v given ∷ []) begun ∙ ap (λ ws. Write v ws ∷ []) same in
    let rest : new ≡ record (begun_at line) { ops = new.ops; staged = new.staged } = wrote.1 ∙ ap (λ (t : TxnSeen). record t { ops = new.ops; staged = new.staged }) begun in
    let txn : IsTxnIn opening events new = kept (subst (IsTxnIn opening events) (sym begun) (begun_in opening events line legal)) in
    alone_sound line new v words ops rest opening events txn view (subst (λ ws. IsStaged (Write v ws)) same staged)
