-- What seats know, as plain data.
use Rattle.std.specs.Prelude.{ℕ, zero, suc, Bool, true, false, List, [], ◌∷◌, ◌++◌, Option, Some, None}
use Rattle.turn_book.specs.declared.view.Claim.{Claim}
use Rattle.turn_book.specs.declared.view.SeatView.{SeatView}
use Rattle.turn_book.specs.History.{entries_of}

module _ {E : Type 0} where
  abbrev pub claim : ℕ → List E → List E → Claim E
  claim number seen mine = record { number = number; seen = seen; mine = mine }

  -- the claims of `count` numbers from `number` on, which have seen nothing
  abbrev pub new_claims : ℕ → ℕ → List (Claim E)
  new_claims number zero = []
  new_claims number (suc count) = claim number [] [] ∷ new_claims (suc number) count

module _ {E F : Type 0} where
  abbrev pub seat_view : Option F → Bool → Claim E → List (Claim E) → SeatView E F
  seat_view fixed holds own further = record { fixed = fixed; holds = holds; own = own; further = further }

  -- it knows nothing
  abbrev pub spent : SeatView E F
  spent = seat_view None false (claim 0 [] []) []

  -- a seat that has seen nothing, with the number of its own and further ones
  abbrev pub new_view : F → ℕ → List (Claim E) → SeatView E F
  new_view fixed number further = seat_view (Some fixed) false (claim number [] []) further

  -- the first seat has all numbers
  abbrev pub first_view : F → ℕ → SeatView E F
  first_view fixed zero = spent
  first_view fixed (suc count) = new_view fixed 0 (new_claims 1 count)

  -- the first of the further claims becomes the seat's own
  abbrev pub with_next : SeatView E F → List (Claim E) → SeatView E F
  with_next v [] = v
  with_next v (c ∷ cs) = seat_view v.fixed v.holds c cs

  -- a split leaves the further numbers to the seat, and its own goes to the new one
  abbrev pub without_own : SeatView E F → SeatView E F
  without_own v = with_next v v.further

  abbrev pub own_alone : SeatView E F → SeatView E F
  own_alone v = seat_view v.fixed false v.own []

  -- the claims of a seat that has a fixed value: its own, and the further ones
  abbrev pub claims_in : Option F → Claim E → List (Claim E) → List (Claim E)
  claims_in None own further = []
  claims_in (Some fixed) own further = own ∷ further

  abbrev pub claims_of : SeatView E F → List (Claim E)
  claims_of v = claims_in v.fixed v.own v.further

  -- a join puts the other's claims before the further ones
  abbrev pub united : SeatView E F → SeatView E F → SeatView E F
  united v other = record v { further = claims_of other ++ v.further }

  -- the turn is taken, and the history seen
  abbrev pub holding : List E → SeatView E F → SeatView E F
  holding history v = record v { holds = true; own = record v.own { seen = history } }

  -- the turn is given back with this history
  abbrev pub resting : (E → ℕ) → List E → SeatView E F → SeatView E F
  resting owner history v =
      record v { holds = false; own = claim v.own.number history (entries_of owner v.own.number history) }
