-- What a contract sees of a book and of its passes.
use Rattle.std.specs.Prelude.{◌≡◌, ℕ, ◌<◌, Bool, false, true, List, [], length, slice_index_or, HoldsAt, Option, Some}
use Rattle.atomic_table.specs.Seated.{TableId}
use Rattle.turn_book.specs.declared.view.SeatView.{SeatView}
use Rattle.turn_book.specs.History.{entries_of}

-- a book: which one it is, how many passes it has, and its fixed value
pub record BookView (F : Type 0) : Type 0 where
  pub id : TableId
  pub passes : ℕ
  pub fixed : F

-- a pass: which book's, the fixed value, its number, what it has seen of the history, its own entries there, and whether it holds the turn
pub record PassView (E F : Type 0) : Type 0 where
  pub book : TableId
  pub fixed : Option F
  pub number : ℕ
  pub seen : List E
  pub mine : List E
  pub holds : Bool

module _ {E F : Type 0} where
  -- the pass of a number as its book begins
  abbrev pub new_pass : BookView F → ℕ → PassView E F
  new_pass book number = record { book = book.id; fixed = Some book.fixed; number = number; seen = []; mine = []; holds = false }

  -- the pass once it has taken the turn and found this history
  abbrev pub with_turn : List E → PassView E F → PassView E F
  with_turn history p = record p { seen = history; holds = true }

  -- the pass once it has given the turn back with this history
  abbrev pub without_turn : (E → ℕ) → List E → PassView E F → PassView E F
  without_turn owner history p = record p { seen = history; mine = entries_of owner p.number history; holds = false }

  -- the pass is of this book, whose fixed value it knows
  abbrev pub IsOf : BookView F → PassView E F → Type 0
  IsOf book p = (p.book ≡ book.id) × (p.fixed ≡ Some book.fixed)

  -- the pass is of this book and doesn't hold the turn
  abbrev pub IsIdle : BookView F → PassView E F → Type 0
  IsIdle book p = IsOf book p × (p.holds ≡ false)

  -- the passes of a book as it begins, each at the place of its number
  abbrev pub AreNew : BookView F → List (PassView E F) → Type 0
  AreNew book passes = (k : ℕ) (p : PassView E F) → k < book.passes → slice_index_or passes k p ≡ new_pass book k

  -- some pass of the list has the number
  abbrev pub HasNumber : List (PassView E F) → ℕ → Type 0
  HasNumber passes number = (i : ℕ) × (i < length passes) × HoldsAt (λ p. p.number ≡ number) passes i

-- a book by its table
abbrev pub book_at : {F : Type 0} → TableId → ℕ → F → BookView F
book_at id passes fixed = record { id = id; passes = passes; fixed = fixed }

-- a pass by what its seat knows
abbrev pub pass_at : {E F : Type 0} → TableId → ℕ → SeatView E F → PassView E F
pass_at id number v = record { book = id; fixed = v.fixed; number = number; seen = v.own.seen; mine = v.own.mine; holds = v.holds }
