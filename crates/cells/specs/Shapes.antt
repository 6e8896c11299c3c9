-- The rules of shapes, as facts and as tests.
use Rattle.std.specs.Prelude.{ℕ, ◌-◌, ◌^◌, ◌≤◌, ◌<◌, List, [], ◌∷◌, length, slice_index, Bool, true, false, ◌&&◌, nat_le, nat_lt}
use Rattle.std.specs.List.{list_all}
use Rattle.cells.specs.Places.{cell_count}

-- an array's sizes: at most 32 of them, each at most 2^62 - 2
pub record IsShape (shape : List ℕ) : Type 0 where
  pub rank : length shape ≤ 32
  pub sizes : (k : ℕ) → k < length shape → slice_index shape k ≤ 2 ^ 62 - 2

-- a chunk's sizes: from 1 to 2^24 cells each, and at most 2^24 together
pub record IsChunkShape (chunks : List ℕ) : Type 0 where
  pub least : (k : ℕ) → k < length chunks → 1 ≤ slice_index chunks k
  pub greatest : (k : ℕ) → k < length chunks → slice_index chunks k ≤ 2 ^ 24
  pub volume : cell_count chunks ≤ 2 ^ 24

-- the test of an array's sizes
abbrev pub is_shape : List ℕ → Bool
is_shape shape = nat_le (length shape) 32 && list_all (λ size. nat_le size (2 ^ 62 - 2)) shape

-- the test of a chunk's sizes
abbrev pub is_chunk_shape : List ℕ → Bool
is_chunk_shape chunks =
    list_all (λ size. nat_le 1 size) chunks && (list_all (λ size. nat_le size (2 ^ 24)) chunks && nat_le (cell_count chunks) (2 ^ 24))

-- the test whether an index vector lies inside a shape
abbrev pub is_inside : List ℕ → List ℕ → Bool
is_inside [] [] = true
is_inside [] (i ∷ index) = false
is_inside (size ∷ shape) [] = false
is_inside (size ∷ shape) (i ∷ index) = nat_lt i size && is_inside shape index
