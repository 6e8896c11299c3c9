-- The rule of the table.
-- Its word is 0 while the turn is free, and else 1, or 2 where seats may wait. Its slot has the value while the turn is free, and is out with the seat that holds the turn while it isn't.
use Rattle.std.specs.Prelude.{◌≡◌, ◌≢◌, ℕ, ◌<◌, true, List, [], ◌∷◌, length, slice_index, Option, Some}
use Rattle.std.specs.List.{AllByRecursion}
use mathlib.Core.Option.{some}
use mathlib.Core.List.{IsPrefix}
use lib.ListN.{get_elem?}
use Rattle.atomic_table.specs.Table.{State}
use Rattle.turn_book.specs.declared.view.Claim.{Claim}
use Rattle.turn_book.specs.declared.view.SeatView.{SeatView}
use Rattle.turn_book.specs.History.{entries_of}
use Rattle.turn_book.specs.Views.{claims_of}

-- a claim fits the history: it has seen a beginning of it, and the entries under its number there are its own
pub record Fits {E : Type 0} (owner : E → ℕ) (history : List E) (count : ℕ) (c : Claim E) : Type 0 where
  pub seen : IsPrefix c.seen history
  pub mine : entries_of owner c.number history ≡ c.mine
  pub small : c.number < count

-- what one seat knows is so. Each number is kept by one seat, and who holds the turn has seen the whole history
pub record Knows {E F : Type 0} (owner : E → ℕ) (history : List E) (count : ℕ) (fixed : F) (word holder : ℕ) (keeper : ℕ → ℕ) (seat : ℕ) (v : SeatView E F) : Type 0 where
  pub claims : AllByRecursion (λ c. Fits owner history count c × (keeper c.number ≡ seat)) (claims_of v)
  pub same : (f : F) → v.fixed ≡ Some f → f ≡ fixed
  pub turn : v.holds ≡ true → (word ≢ 0) × (holder ≡ seat) × (v.own.seen ≡ history)

-- There is one history. While the turn is free the value in the slot has it and agrees with the fixed value; else one seat holds the turn. What each seat knows is so
pub record KeepsTurn {S E F : Type 0} (owner : E → ℕ) (history : S → List E) (agrees : S → F → Type 0) (count : ℕ) (fixed : F) (s : State (Option S) (SeatView E F)) : Type 0 where
  pub past : List E
  pub holder : ℕ
  pub keeper : ℕ → ℕ
  pub one_word : length s.words ≡ 1
  pub one_slot : length s.homes ≡ 1
  pub free : slice_index s.words 0 ≡ 0 → (y : S) × (s.homes ≡ some (Some y) ∷ []) × agrees y fixed × (history y ≡ past)
  pub held : slice_index s.words 0 ≢ 0 → (v : SeatView E F) × (f : F) × (get_elem? s.views holder ≡ some v) × (v.holds ≡ true) × (v.fixed ≡ Some f)
  pub owned : AllByRecursion (λ e. owner e < count) past
  pub each_seat : (j : ℕ) (v : SeatView E F) → get_elem? s.views j ≡ some v → Knows owner past count fixed (slice_index s.words 0) holder keeper j v
