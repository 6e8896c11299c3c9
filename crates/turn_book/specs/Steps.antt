-- What the steps of a turn tell the seat that takes them, and what is known once the table is closed.
use Rattle.std.specs.Prelude.{◌≡◌, ◌==◌, ℕ, ◌<◌, List, [], ◌∷◌, MatchBool, Option, Some}
use Rattle.std.specs.List.{AllByRecursion}
use mathlib.Core.List.{IsPrefix}
use Rattle.atomic_table.specs.Table.{Me, Step}
use Rattle.turn_book.specs.declared.view.SeatView.{SeatView}
use Rattle.turn_book.specs.History.{entries_of}
use Rattle.turn_book.specs.Views.{claims_of, holding, resting}
use Rattle.turn_book.specs.Rule.{Fits}

-- a seat's view and the slots that it has
abbrev pub Sitting : Type 0 → Type 0 → Type 0 → Type 0
Sitting S E F = Me (Option S) (SeatView E F)

module _ {S E F : Type 0} where
  -- the seat has the turn and the slot with a value that agrees with the fixed value. The value's history begins with what the seat had seen, and has its own entries and no others under its number
  abbrev pub TakesTurn : (E → ℕ) → (S → List E) → (S → F → Type 0) → Sitting S E F → Sitting S E F → Type 0
  TakesTurn owner history agrees m m' =
      (y : S) × (m' ≡ (holding (history y) m.0, (0, Some y) ∷ m.1)) × IsPrefix m.0.own.seen (history y)
      × (entries_of owner m.0.own.number (history y) ≡ m.0.own.mine) × ((f : F) → m.0.fixed ≡ Some f → agrees y f)

  -- where the word was 0 the turn is taken, and else nothing changes
  abbrev pub TakesIfFree : (E → ℕ) → (S → List E) → (S → F → Type 0) → Step (Option S) → Sitting S E F → ℕ → Sitting S E F → Type 0
  TakesIfFree owner history agrees st m found m' = MatchBool (found == 0) (TakesTurn owner history agrees m m') (m' ≡ m)

  -- the value in the slot goes back with the turn
  abbrev pub GivesBack : (E → ℕ) → (S → List E) → Step (Option S) → Sitting S E F → ℕ → Sitting S E F → Type 0
  GivesBack owner history st m found m' = (y : S) → m.1 ≡ (0, Some y) ∷ [] → m' ≡ (resting owner (history y) m.0, [])

-- the last value: all claims of the seat fit its history
pub record Ends {S E F : Type 0} (owner : E → ℕ) (history : S → List E) (agrees : S → F → Type 0) (count : ℕ) (fixed : F) (v : SeatView E F) (y : S) : Type 0 where
  pub agreed : agrees y fixed
  pub claims : AllByRecursion (Fits owner (history y) count) (claims_of v)
  pub owned : AllByRecursion (λ e. owner e < count) (history y)
