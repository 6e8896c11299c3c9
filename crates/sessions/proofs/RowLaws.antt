-- Rows of lines that take a turn.
use Rattle.std.proofs.Common.{◌≡◌, ◌∙◌, ℕ, ◌+◌, List, length, Option, Result, Ok, Err, refl, sym, ap, subst}
use Rattle.history.specs.declared.event.Event.{Event}
use Rattle.history.specs.Acts.{resizes, act_of}
use Rattle.history.specs.Answers.{Text}
use Rattle.history.specs.Lines.{resizing}
use Rattle.history.specs.Own.{numbered}
use Rattle.history.specs.Sessions.{Names}
use Rattle.history.specs.Steps.{IsAnswered}
use Rattle.session_turns.specs.Bodies.{body_of}
use Rattle.sessions.specs.Bodies.{resized_answer}
use Rattle.session_turns.specs.Standing.{session_state, transaction_in}
use Rattle.session_turns.specs.Told.{IsToldBy}
use Rattle.session_turns.specs.Turns.{IsRested, added_by, IsResizeTurn}
use Rattle.session_turns.proofs.Laws.{own_of_turn, same_rest, resize_row, body_of as resize_body}
use Rattle.session_turns.specs.Agreement.{Opening}
use Rattle.session_turns.specs.Answers.{IsAnswer, fixed_by}
use Rattle.session_turns.specs.declared.ResizeError.{ResizeError}
use Rattle.session_turns.specs.declared.ResizeError.TheVariants as error
use Rattle.stack_driver.specs.References.{Reference}
use Rattle.session_turns.specs.Txn.{TxnSeen}
use Rattle.turn_book.specs.Passes.{BookView, PassView}

same_answer : (r : Result ℕ ResizeError) → resize_body r ≡ resized_answer r
same_answer (Ok n) = refl
same_answer (Err (error.TooManyChunks at)) = refl
same_answer (Err (error.NotAtomic keys)) = refl
same_answer (Err (error.Damaged key cause)) = refl
same_answer (Err (error.StoreFailed event)) = refl
same_answer (Err error.Memory) = refl

-- a resize in a turn
pub told_resized : (book : BookView Opening) (before_pass new : PassView Event Opening) (names : Names) (t : Option TxnSeen) (line : ℕ) (name : Text) (shape : List ℕ) (r : Reference) (answer : Result ℕ ResizeError) → IsRested book before_pass
    → act_of names (transaction_in t) (resizing name shape) ≡ Ok (resizes r shape) → IsResizeTurn book before_pass new r.number shape answer
    → IsToldBy book before_pass new (session_state names (length before_pass.seen) t) line (resizing name shape) names (transaction_in t) (body_of (resized_answer answer))
told_resized book pass new names t line name shape r answer rested act turn start is =
    let fixed = fixed_by book.fixed start in
    let s = session_state names (length pass.seen) t in
    let row = resize_row fixed pass.number turn.before new.seen s line r shape answer (subst (λ told. IsAnswer fixed told turn.before pass.number r.number shape answer new.seen) is (turn.answer start)) in
    let own : row.own ≡ turn.added = same_rest turn.before row.own turn.added (sym row.added ∙ turn.turn.later) in
    let numbers : numbered (length turn.before + 1) row.own ≡ added_by pass new = ap (numbered (length turn.before + 1)) own ∙ sym (own_of_turn book pass new turn.before turn.added rested turn.turn) in
    record {
      body = resized_answer answer;
      printed = refl;
      row =
          subst (λ a. IsAnswered fixed pass.number new.seen s line a names (transaction_in t) (resized_answer answer) (added_by pass new)) (sym act)
          (subst (λ b. IsAnswered fixed pass.number new.seen s line (Ok (resizes r shape)) names (transaction_in t) b (added_by pass new)) (same_answer answer)
          (subst (IsAnswered fixed pass.number new.seen s line (Ok (resizes r shape)) names (transaction_in t) (resize_body answer)) numbers row.row));
    }
