-- What a pass has seen, and what a turn does to it.
use Rattle.std.specs.Prelude.{◌≡◌, ◌⊎◌, ℕ, List, [], ◌∷◌, ◌++◌, Some}
use Rattle.std.specs.FinMap as finmap
use mathlib.Core.List.{IsPrefix}
use Rattle.kv_face.specs.Store.{Contents}
use Rattle.history.specs.History.{History}
use Rattle.history.specs.Legal.{IsLegal}
use Rattle.history.specs.declared.event.Event.{Event}
use Rattle.shared_state.specs.Agreement.{Opening}
use Rattle.shared_state.specs.Outline.{outline}
use Rattle.history.specs.Own.{fault}
use Rattle.transaction_cells.specs.declared.view_cells.Piece.{Piece}
use Rattle.chunk_fetches.specs.Looking.{HasFailedAmong}
use Rattle.turn_book.specs.History.{entries_of}
use Rattle.turn_book.specs.Passes.{BookView, PassView, IsIdle}

-- whose an event is
abbrev pub owner_of : Event → ℕ
owner_of e = e.owner

-- events that may have happened: arrays were opened as a history may, and the whole is legal where the store told its contents at the start
pub record IsPast (opening : Opening) (events : History) : Type 0 where
  pub outline : IsLegal finmap.empty (outline events)
  pub legal : (start : Contents) → opening.store.contents ≡ Some start → IsLegal start events

-- a pass that had taken no turn, or has given all of them back: it has seen all that it had, and these events of its own are new
pub record HasTurned (book : BookView Opening) (old new : PassView Event Opening) (added : List Event) : Type 0 where
  pub idle : IsIdle book new
  pub number : new.number ≡ old.number
  pub before : IsPrefix old.seen new.seen
  pub mine : new.mine ≡ old.mine ++ added
  pub own : entries_of owner_of new.number new.seen ≡ new.mine
  pub past : IsPast book.fixed new.seen

-- a turn in which the store failed for the chunk of one of these pieces
pub record HasFailedTurn (book : BookView Opening) (old new : PassView Event Opening) (pieces : List Piece) (event : ℕ) : Type 0 where
  pub before : History
  pub grown : IsPrefix old.seen before
  pub failed : HasFailedAmong old.number pieces before new.seen event
  pub turned : (mount : List ℕ) → new.seen ≡ before ++ fault old.number mount ∷ [] → HasTurned book old new (fault old.number mount ∷ [])

-- a pass that took no turn, or gave all of them back; these events of its own are new
abbrev pub HasPassed : BookView Opening → PassView Event Opening → PassView Event Opening → List Event → Type 0
HasPassed book old new added = (new ≡ old) ⊎ HasTurned book old new added
