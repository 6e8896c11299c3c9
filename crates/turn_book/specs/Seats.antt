-- What is true of a seat.
use Rattle.std.specs.Prelude.{◌≡◌, ℕ, ◌<◌, ◌⊎◌, Bool, true, false, List, [], ◌∷◌, ◌++◌, Option, Some, None}
use Rattle.atomic_table.specs.Table.{Me}
use Rattle.atomic_table.specs.declared.shared.Seat.{Seat}
use Rattle.turn_book.specs.declared.view.Claim.{Claim}
use Rattle.turn_book.specs.declared.view.SeatView.{SeatView}
use Rattle.turn_book.specs.Passes.{BookView, PassView}
use Rattle.turn_book.specs.Views.{claim, claims_of}

-- the slots that a seat has in its turn: the one slot, out of which the value was taken
abbrev pub in_hand : {S : Type 0} → Bool → List (ℕ × Option S)
in_hand true = (0, None) ∷ []
in_hand false = []

-- the seat of a pass: it has one number, and the slot exactly in its turn
pub record IsSeated {S E F : Type 0} (number : ℕ) (me : Me (Option S) (SeatView E F)) : Type 0 where
  pub own_number : me.0.own.number ≡ number
  pub alone : me.0.further ≡ []
  pub hand : me.1 ≡ in_hand me.0.holds

module _ {S E F : Type 0} where
  -- a seat at this book's table, which knows its fixed value
  abbrev pub IsAt : BookView F → Seat (Option S) (SeatView E F) → Type 0
  IsAt book seat = (seat.table_id ≡ book.id) × (seat.me.0.fixed ≡ Some book.fixed)

  -- the seat has taken in these claims
  abbrev pub with_claims : Me (Option S) (SeatView E F) → List (Claim E) → Me (Option S) (SeatView E F)
  with_claims me claims = (record me.0 { further = claims ++ me.0.further }, me.1)

-- the claim of a pass
abbrev pub claim_of : {E F : Type 0} → PassView E F → Claim E
claim_of p = claim p.number p.seen p.mine

-- P holds of some element
abbrev pub Among : {A : Type 0} → (A → Type 0) → List A → Type 0
Among P [] = ⊥
Among P (x ∷ xs) = P x ⊎ Among P xs

-- each number below the count is among the claims
abbrev pub HasAll : {E F : Type 0} → ℕ → SeatView E F → Type 0
HasAll count v = (k : ℕ) → k < count → Among (λ c. c.number ≡ k) (claims_of v)
