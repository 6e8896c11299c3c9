-- The chunks behind a dimension of a grid: all of them, and those that a new shape cuts.
use Rattle.std.specs.Prelude.{◌≡◌, ℕ, suc, ◌<◌, min, List, length, drop, Bool, true, false, slice_index_or}
use Rattle.cells.specs.Places.{cell_count, index_vectors}
use Rattle.history.specs.Grid.{grid_of}
use Rattle.chunk_laying.specs.declared.counting.Counts.{Counts}
use Rattle.chunk_laying.specs.Resized.{cut_indices}

-- all chunks of the old grid, or those that the new shape cuts, in lexical order
abbrev pub chunks_of : Bool → List ℕ → List ℕ → List ℕ → List (List ℕ)
chunks_of true chunk_shape old new = index_vectors (grid_of old chunk_shape)
chunks_of false chunk_shape old new = cut_indices chunk_shape old new

-- how many there are, 65,537 standing for every greater count
pub record IsCounted (chunk_shape old new : List ℕ) (all cut : ℕ) : Type 0 where
  pub all_is : all ≡ min (cell_count (grid_of old chunk_shape)) 65537
  pub cut_is : cut ≡ min (length (cut_indices chunk_shape old new)) 65537

-- for each dimension the counts of the dimensions behind it
abbrev pub AreBehind : List ℕ → List ℕ → List ℕ → List Counts → Type 0
AreBehind chunk_shape old new behind = (k : ℕ) (d : Counts) → k < length chunk_shape
    → IsCounted (drop (suc k) chunk_shape) (drop (suc k) old) (drop (suc k) new)
    (slice_index_or behind k d).all (slice_index_or behind k d).cut
