-- The words of a view's cells, and those that are kept of them.
use Rattle.std.specs.Prelude.{◌≡◌, ℕ, ◌<◌, List, [], ◌∷◌, length, slice_index_or}
use Rattle.std.specs.List.{AllByRecursion}
use Rattle.cast_driver.specs.declared.cast.Cast.{Cast}
use Rattle.stack_driver.specs.Targets.{inwards}
use Rattle.transaction_cells.specs.Sites.{no_lane}
use Rattle.transaction_cells.specs.Lanes.{LaneSeen}

-- a leaf's number is that of a lane
abbrev pub HasLane : List LaneSeen → ℕ → Type 0
HasLane lanes leaf = leaf < length lanes

-- the casts of a cell's leaf
abbrev pub casts_at : List LaneSeen → ℕ → List Cast
casts_at lanes leaf = (slice_index_or lanes leaf no_lane).casts

-- no leaf has a cast
abbrev pub ArePlain : List LaneSeen → Type 0
ArePlain lanes = AllByRecursion (λ (lane : LaneSeen). lane.casts ≡ []) lanes

-- each word taken back through the casts of its cell's leaf
abbrev pub taken_back : List LaneSeen → List ℕ → List ℕ → List ℕ
taken_back lanes [] words = []
taken_back lanes (leaf ∷ leaves) [] = []
taken_back lanes (leaf ∷ leaves) (word ∷ words) = inwards (casts_at lanes leaf) word ∷ taken_back lanes leaves words
