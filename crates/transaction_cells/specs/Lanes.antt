-- What the leaves of a view tell of where cells lie.
use Rattle.std.specs.Prelude.{◌≡◌, ℕ, List, [], ◌∷◌, ◌++◌, length, map, ◌==◌, Contains, if◌then◌else◌}
use Rattle.cells.specs.Places.{cell_count}
use Rattle.cells.specs.Shapes.{IsChunkShape}
use Rattle.cells.specs.declared.dtype.Dtype.{Dtype}
use Rattle.cast_driver.specs.Chain.{BeginsWith, dtype_after}
use Rattle.stack_targets.specs.Landings.{Seen}
use Rattle.cast_driver.specs.declared.cast.Cast.{Cast}

-- an array's number, the shape of its chunks, and the casts from a leaf of it outwards
pub record LaneSeen : Type 0 where
  pub array : ℕ
  pub chunk : List ℕ
  pub casts : List Cast

-- what a leaf tells
abbrev pub lane_of : Seen → LaneSeen
lane_of seen = record { array = seen.array.number; chunk = seen.array.chunk; casts = seen.casts }

-- a lane with one cast more
abbrev pub cast_lane : Cast → LaneSeen → LaneSeen
cast_lane cast lane = record { array = lane.array; chunk = lane.chunk; casts = lane.casts ++ cast ∷ [] }

-- the cells of a chunk, by the first lane of its array; 0 where there is none
abbrev pub size_among : List LaneSeen → ℕ → ℕ
size_among [] array = 0
size_among (lane ∷ lanes) array = if lane.array == array then cell_count lane.chunk else size_among lanes array

-- lanes of one array have chunks of one shape
abbrev pub HaveOneShape : List LaneSeen → Type 0
HaveOneShape lanes = (a b : LaneSeen) → Contains lanes a → Contains lanes b → a.array ≡ b.array → a.chunk ≡ b.chunk

-- so do leaves of one array
abbrev pub AreAlike : List Seen → Type 0
AreAlike leaves = HaveOneShape (map lane_of leaves)

-- the shape of an array's chunks is one, and has the rank of the array
pub record HasGrid (seen : Seen) : Type 0 where
  pub rank : length seen.array.chunk ≡ length seen.array.shape
  pub shape : IsChunkShape seen.array.chunk

-- the casts of a leaf lead from its array's dtype to this one
pub record IsShownAs (dtype : Dtype) (seen : Seen) : Type 0 where
  pub begins : BeginsWith seen.array.dtype seen.casts
  pub ends : dtype_after seen.array.dtype seen.casts ≡ dtype
