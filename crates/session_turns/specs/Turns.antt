-- A pass before and behind the turns of a line.
use Rattle.std.specs.Prelude.{◌≡◌, ℕ, ◌+◌, List, ◌++◌, length, drop, Result}
use mathlib.Core.List.{IsPrefix}
use Rattle.history.specs.declared.event.Event.{Event}
use Rattle.history.specs.History.{History}
use Rattle.history.specs.Own.{Numbered, own_events}
use Rattle.kv_face.specs.Store.{Contents}
use Rattle.state_resizes.specs.Agreement.{Opening}
use Rattle.state_resizes.specs.Answers.{IsAnswer, fixed_by}
use Rattle.state_resizes.specs.declared.error.ResizeError.{ResizeError}
use Rattle.transactions.specs.Turns.{owner_of, IsPast, HasTurned}
use Rattle.turn_book.specs.History.{entries_of}
use Rattle.turn_book.specs.Passes.{BookView, PassView, IsIdle}

-- a pass between lines: it holds no turn, its own events are those of its number, and what it has seen may have happened
pub record IsRested (book : BookView Opening) (pass : PassView Event Opening) : Type 0 where
  pub idle : IsIdle book pass
  pub own : entries_of owner_of pass.number pass.seen ≡ pass.mine
  pub past : IsPast book.fixed pass.seen

-- one turn: others' events up to some moment, and behind them these, which are the pass's own
pub record IsTurn (book : BookView Opening) (old new : PassView Event Opening) (before added : History) : Type 0 where
  pub grown : IsPrefix old.seen before
  pub others : entries_of owner_of old.number before ≡ old.mine
  pub later : new.seen ≡ before ++ added
  pub added_own : entries_of owner_of old.number added ≡ added
  pub turned : HasTurned book old new added

-- no turn or some: the pass rests again, and has seen all that it had
pub record HasPassed (book : BookView Opening) (old new : PassView Event Opening) : Type 0 where
  pub rested : IsRested book new
  pub number : new.number ≡ old.number
  pub before : IsPrefix old.seen new.seen

-- the pass's own events that it had not seen, each with its number
abbrev pub added_by : PassView Event Opening → PassView Event Opening → List Numbered
added_by old new = own_events old.number (length old.seen + 1) (drop (length old.seen) new.seen)

-- a resize in a turn, with its answer by each contents of the start, which are the store's where it told them
pub record IsResizeTurn (book : BookView Opening) (old new : PassView Event Opening) (array : ℕ) (shape : List ℕ) (r : Result ℕ ResizeError) : Type 0 where
  pub before : History
  pub added : History
  pub turn : IsTurn book old new before added
  pub answer : (start : Contents) → IsAnswer (fixed_by book.fixed start) book.fixed.store.contents before old.number array shape r new.seen
