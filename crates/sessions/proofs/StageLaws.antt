-- A write in a transaction as a row of a session's step.
use Rattle.std.proofs.Common.{◌≡◌, ◌∙◌, ℕ, List, [], ◌∷◌, ◌++◌, length, Some, None, Ok, refl, sym, ap, subst}
use Rattle.session_turns.specs.declared.Body.{Body}
use Rattle.history.specs.Acts.{stages, act_of, without}
use Rattle.history.specs.Answers as old_answers
use Rattle.history.specs.Commit.{Transaction}
use Rattle.history.specs.declared.event.Op.TheVariants.{Write}
use Rattle.history.specs.History.{History}
use Rattle.history.specs.Lines.{Line}
use Rattle.history.specs.Sessions.{Names}
use Rattle.history.specs.Staged.{IsStaged}
use Rattle.history.specs.Steps.{IsAnswered, done_line, write_staged, with_write}
use Rattle.history.specs.Viewing.{cell_fault}
use Rattle.session_turns.specs.Bodies.{body_of}
use Rattle.sessions.specs.Commits.{HasSoundTxn}
use Rattle.session_turns.specs.Standing.{session_state}
use Rattle.session_turns.specs.Told.{IsTold, IsToldAlone, IsAnswerTo}
use Rattle.session_turns.proofs.Laws.{told_refused, recorded_written}
use Rattle.stack_driver.specs.Conditions.{IsView}
use Rattle.stack_driver.specs.declared.view.View.{View}
use Rattle.session_turns.specs.Agreement.{Opening}
use Rattle.session_turns.specs.Conditions.{IsTxnIn}
use Rattle.session_turns.specs.Recording.{IsRecorded}
use Rattle.session_turns.specs.Txn.{TxnSeen, transaction_of, marks_of}

module _ (old new : TxnSeen) (v : View) (words given : List ℕ) (same : given ≡ words) (wrote : (new.ops ≡ old.ops ++ Write v given ∷ []) × (new ≡ record old { ops = new.ops; staged = new.staged })) where
  -- a transaction with one more write
  pub write_more : transaction_of new ≡ with_write (transaction_of old) v words
  write_more =
      ap transaction_of wrote.1 ∙ ap (λ ops. record { line = old.line; mode = old.mode; ops = ops; marks = marks_of old.kept }) (wrote.0 ∙ ap (λ ws. old.ops ++ Write v ws ∷ []) same)

  pub more_sound : (opening : Opening) (events : History) → IsTxnIn opening events new → IsView v → IsStaged (Write v given) → HasSoundTxn opening events (Some old) → HasSoundTxn opening events (Some new)
  more_sound opening events txn view staged was = (
    txn,
    subst (IsRecorded opening events) (sym write_more) (recorded_written opening events (transaction_of old) v words was.1 view (subst (λ ws. IsStaged (Write v ws)) same staged)),
  )

  pub staged_told : (names : Names) (seen line : ℕ) (asked : Line) → cell_fault v ≡ None → act_of names (Some (transaction_of old)) asked ≡ without (cell_fault v) (Ok (stages (transaction_of old) v words))
      → IsToldAlone (session_state names seen (Some old)) line asked names (Some (transaction_of new)) (body_of (old_answers.staged (length words)))
  staged_told names seen line asked found act fixed owner events = record {
    body = old_answers.staged (length words);
    printed = refl;
    row =
        subst (λ a. IsAnswered fixed owner events (session_state names seen (Some old)) line a names (Some (transaction_of new)) (old_answers.staged (length words)) []) (sym (act ∙ ap (λ f. without f (Ok (stages (transaction_of old) v words))) found))
        (subst (λ (t : Transaction). IsAnswered fixed owner events (session_state names seen (Some old)) line (Ok (stages (transaction_of old) v words)) names (Some t) (old_answers.staged (length words)) []) (sym write_more) (done_line write_staged));
  }

-- what is refused leaves the transaction
pub unstaged_told : (old new : TxnSeen) (names : Names) (seen line : ℕ) (asked : Line) (answer : Body) → transaction_of new ≡ transaction_of old → IsAnswerTo (act_of names (Some (transaction_of old)) asked) answer
    → IsToldAlone (session_state names seen (Some old)) line asked names (Some (transaction_of new)) answer
unstaged_told old new names seen line asked answer same refused fixed owner events =
    subst (λ (t : Transaction). IsTold fixed owner events (session_state names seen (Some old)) line asked names (Some t) answer []) (sym same)
    (told_refused fixed owner events (session_state names seen (Some old)) line asked answer refused)
