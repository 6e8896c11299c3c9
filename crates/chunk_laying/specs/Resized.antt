-- What a new shape of an array does to its chunks.
use Rattle.std.specs.Prelude.{ℕ, ◌&&◌, Bool, not, filter, List}
use Rattle.cells.specs.Places.{index_vectors}
use Rattle.history.specs.Grid.{grid_of}
use Rattle.history.specs.Resizes.{reaches_into, is_cut}

-- the indices of the chunks that a new shape cuts, in lexical order: those that have a cell in the old shape and not in the new one
abbrev pub cut_indices : List ℕ → List ℕ → List ℕ → List (List ℕ)
cut_indices chunk_shape old new = filter (is_cut chunk_shape old new) (index_vectors (grid_of old chunk_shape))

-- no cell of the chunk is in the shape
abbrev pub is_gone : List ℕ → List ℕ → List ℕ → Bool
is_gone chunk_shape new chunk = not (reaches_into chunk_shape new chunk)

-- the new shape cuts the chunk, and leaves a cell of it
abbrev pub is_cut_in_part : List ℕ → List ℕ → List ℕ → List ℕ → Bool
is_cut_in_part chunk_shape old new chunk = is_cut chunk_shape old new chunk && reaches_into chunk_shape new chunk
