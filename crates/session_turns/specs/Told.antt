-- What a session answers, for what the history says of the line.
use Rattle.std.specs.Prelude.{◌≡◌, ℕ, List, [], Option, Some}
use Rattle.line_acts.specs.declared.Body.{Body}
use Rattle.history.specs.Acts.{act_of}
use Rattle.history.specs.Answers as old
use Rattle.history.specs.Commit.{Fixed, Transaction}
use Rattle.history.specs.History.{History}
use Rattle.history.specs.Lines.{Line}
use Rattle.history.specs.Own.{Numbered}
use Rattle.history.specs.Sessions.{Names, SessionState}
use Rattle.history.specs.Steps.{IsAnswered}
use Rattle.kv_face.specs.Store.{Contents}
use Rattle.line_acts.specs.Bodies.{body_of}
-- refusals and names that are bound, given on
pub use Rattle.line_acts.specs.Refused.{IsAnswerTo}
pub use Rattle.line_acts.specs.Bound.{IsBoundAs}
use Rattle.session_turns.specs.Turns.{added_by}
use Rattle.state_resizes.specs.Agreement.{Opening}
use Rattle.state_resizes.specs.Answers.{fixed_by}
use Rattle.turn_book.specs.Passes.{BookView, PassView}
use Rattle.history.specs.declared.event.Event.{Event}

-- the answer is the printed one of a row of the line, over the events that are seen in the end
pub record IsTold (fixed : Fixed) (owner : ℕ) (events : History) (s : SessionState) (line : ℕ) (asked : Line) (names : Names) (t : Option Transaction) (answer : Body) (own : List Numbered) : Type 0 where
  pub body : old.Body
  pub printed : answer ≡ body_of body
  pub row : IsAnswered fixed owner events s line (act_of s.names s.transaction asked) names t body own

-- the same of a line that takes no turn: it adds no event, whatever has happened
abbrev pub IsToldAlone : SessionState → ℕ → Line → Names → Option Transaction → Body → Type 0
IsToldAlone s line asked names t answer = (fixed : Fixed) (owner : ℕ) (events : History) → IsTold fixed owner events s line asked names t answer []

-- where the store told its contents at the start, the answer is that of a row over what the pass has seen in the end, and the row adds
-- the pass's own new events
abbrev pub IsToldBy : BookView Opening → PassView Event Opening → PassView Event Opening → SessionState → ℕ → Line → Names → Option Transaction → Body → Type 0
IsToldBy book old new s line asked names t answer = (start : Contents) → book.fixed.store.contents ≡ Some start
    → IsTold (fixed_by book.fixed start) old.number new.seen s line asked names t answer (added_by old new)
