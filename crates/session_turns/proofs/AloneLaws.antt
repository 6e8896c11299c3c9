-- Rows of lines that may take a turn, and take none.
use Rattle.std.proofs.Common.{ℕ, Option, sym, subst}
use Rattle.line_acts.specs.declared.Body.{Body}
use Rattle.history.specs.declared.event.Event.{Event}
use Rattle.history.specs.Acts.{act_of}
use Rattle.history.specs.Commit.{Transaction}
use Rattle.history.specs.Lines.{Line}
use Rattle.history.specs.Sessions.{Names, SessionState}
use Rattle.session_turns.specs.Told.{IsTold, IsToldAlone, IsAnswerTo, IsToldBy}
use Rattle.session_turns.proofs.OwnLaws.{none_added}
use Rattle.session_turns.proofs.ToldLaws.{told_refused}
use Rattle.state_resizes.specs.Agreement.{Opening}
use Rattle.state_resizes.specs.Answers.{fixed_by}
use Rattle.turn_book.specs.Passes.{BookView, PassView}

module _ (book : BookView Opening) (old : PassView Event Opening) where
  -- what takes no turn adds no event
  pub told_alone : (s : SessionState) (line : ℕ) (asked : Line) (names : Names) (t : Option Transaction) (answer : Body) → IsToldAlone s line asked names t answer → IsToldBy book old old s line asked names t answer
  told_alone s line asked names t answer told start is =
      subst (IsTold (fixed_by book.fixed start) old.number old.seen s line asked names t answer) (sym (none_added old)) (told (fixed_by book.fixed start) old.number old.seen)

  -- a refusal without a turn
  pub told_without : (s : SessionState) (line : ℕ) (asked : Line) (answer : Body) → IsAnswerTo (act_of s.names s.transaction asked) answer → IsToldBy book old old s line asked s.names s.transaction answer
  told_without s line asked answer refused = told_alone s line asked s.names s.transaction answer (λ fixed owner events. told_refused fixed owner events s line asked answer refused)
