-- Rows of lines that take no turn.
use Rattle.std.proofs.Common.{◌≡◌, ℕ, true, false, is_some, [], inl, inr, Option, Some, None, Ok, Err, refl, sym, subst}
use Rattle.line_acts.specs.declared.Body.{Body}
use Rattle.history.specs.Acts.{Asked, outside, binds, act_of}
use Rattle.history.specs.Answers as old
use Rattle.history.specs.Answers.{Text}
use Rattle.history.specs.Commit.{Fixed}
use Rattle.history.specs.History.{History}
use Rattle.history.specs.Lines.{Line}
use Rattle.history.specs.Sessions.{Names, SessionState}
use Rattle.history.specs.Steps.{IsAnswered, refused_line, wanting, done_line, view_done}
use Rattle.history.specs.Viewing.{viewed_body}
use Rattle.line_acts.specs.Bodies.{body_of}
use Rattle.session_turns.specs.Standing.{transaction_in}
use Rattle.session_turns.specs.Told.{IsTold, IsAnswerTo, IsBoundAs}
use Rattle.stack_driver.specs.declared.view.View.{View}
use Rattle.transactions.specs.Txn.{TxnSeen}

-- want of memory may be answered to each line
pub told_wanting : (fixed : Fixed) (owner : ℕ) (events : History) (s : SessionState) (line : ℕ) (asked : Line) (answer : Body) → answer ≡ body_of old.memory
    → IsTold fixed owner events s line asked s.names s.transaction answer []
told_wanting fixed owner events s line asked answer is = record { body = old.memory; printed = is; row = wanting }

-- a refusal is answered by its body
pub told_refused : (fixed : Fixed) (owner : ℕ) (events : History) (s : SessionState) (line : ℕ) (asked : Line) (answer : Body) → IsAnswerTo (act_of s.names s.transaction asked) answer
    → IsTold fixed owner events s line asked s.names s.transaction answer []
told_refused fixed owner events s line asked answer (inl wants) = told_wanting fixed owner events s line asked answer wants
told_refused fixed owner events s line asked answer (inr p) = record {
  body = p.0;
  printed = p.2;
  row = subst (λ a. IsAnswered fixed owner events s line a s.names s.transaction p.0 []) (sym p.1) refused_line;
}

-- a name that is bound to what the line asks
pub told_bound : (fixed : Fixed) (owner : ℕ) (events : History) (s : SessionState) (line : ℕ) (asked : Line) (name : Text) (view : View) (later : Names) (answer : Body) → act_of s.names s.transaction asked ≡ Ok (binds name view)
    → IsBoundAs (body_of (viewed_body name view)) s.names name view later answer → IsTold fixed owner events s line asked later s.transaction answer []
told_bound fixed owner events s line asked name view later answer act (inl done) = record {
  body = viewed_body name view;
  printed = done.0;
  row =
      subst (λ a. IsAnswered fixed owner events s line a later s.transaction (viewed_body name view) []) (sym act)
      (subst (λ names. IsAnswered fixed owner events s line (Ok (binds name view)) names s.transaction (viewed_body name view) []) (sym done.1) (done_line view_done));
}
told_bound fixed owner events s line asked name view later answer act (inr wants) =
    subst (λ names. IsTold fixed owner events s line asked names s.transaction answer []) (sym wants.1) (told_wanting fixed owner events s line asked answer wants.0)

-- a transaction stands where there is one
pub outside_some : (t : Option TxnSeen) (asked : Asked) → is_some t ≡ true → outside (transaction_in t) asked ≡ Err old.in_transaction
outside_some None asked e = absurd (let no_such : ⊥ = cc in no_such)
outside_some (Some t) asked e = refl

pub outside_none : (t : Option TxnSeen) (asked : Asked) → is_some t ≡ false → outside (transaction_in t) asked ≡ asked
outside_none None asked e = refl
outside_none (Some t) asked e = absurd (let no_such : ⊥ = cc in no_such)
