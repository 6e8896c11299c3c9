-- The shapes that arrays of the run may have here.
use Rattle.std.specs.Prelude.{◌≤◌, ◌^◌, ℕ, List, length, map, max}
use Rattle.cells.specs.Places.{cell_count}

-- a rank of at most 32, few enough cells for a chunk, and for an array of the run, in which each size 0 counts as 1
pub record IsLocalShape (shape : List ℕ) : Type 0 where
  pub rank : length shape ≤ 32
  pub chunk : cell_count shape ≤ 2 ^ 24
  pub few : cell_count (map (max 1) shape) ≤ 2 ^ 22
