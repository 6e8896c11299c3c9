-- The cells of a chunk that lie in the array's shape, by their places in the chunk, row by row.
use Rattle.std.specs.Prelude.{◌≡◌, ℕ, ◌+◌, ◌*◌, ◌/◌, ◌%◌, ◌<◌, ◌≤◌, List, [], ◌∷◌, length, take, Bool, true, ◌&&◌, nat_lt}
use Rattle.cells.specs.Places.{cell_count}

-- the cell at a place of the chunk lies in the array's shape
abbrev pub is_place_inside : List ℕ → List ℕ → List ℕ → ℕ → Bool
is_place_inside [] shape chunk place = true
is_place_inside (n ∷ chunk_shape) [] chunk place = true
is_place_inside (n ∷ chunk_shape) (size ∷ shape) [] place = true
is_place_inside (n ∷ chunk_shape) (size ∷ shape) (c ∷ chunk) place =
    nat_lt (c * n + place / cell_count chunk_shape) size && is_place_inside chunk_shape shape chunk (place % cell_count chunk_shape)

-- so many rows of so many cells are the chunk; where the first dimensions are inside, the first cells of a row are, and no others
pub record AreRows (chunk_shape shape chunk : List ℕ) (head count len inside : ℕ) : Type 0 where
  pub positive : 0 < len
  pub short : inside ≤ len
  pub rank : head ≤ length chunk_shape
  pub rows : count ≡ cell_count (take head chunk_shape)
  pub all : count * len ≡ cell_count chunk_shape
  pub cells : (place : ℕ) → place < cell_count chunk_shape
      → is_place_inside chunk_shape shape chunk place
      ≡ (is_place_inside (take head chunk_shape) (take head shape) (take head chunk) (place / len) && nat_lt (place % len) inside)
