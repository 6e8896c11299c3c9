-- Which cells of a view a read needs outside a shape.
use Rattle.std.specs.Prelude.{◌≡◌, ℕ, List, [], ◌∷◌, length, Bool, ◌&&◌, not, Option, unwrap_or}
use Rattle.std.specs.List.{list_any, flat_map}
use Rattle.std.specs.Str.{bytes_eq}
use Rattle.cells.specs.Places.{cell_count, c_index}
use Rattle.cells.specs.Runs.{Pair, pairs_of}
use Rattle.cells.specs.Shapes.{IsChunkShape, is_inside}
use Rattle.cells.specs.declared.run.Run.{Run}
use Rattle.history.specs.Chunks.{chunk_of, in_array}
use Rattle.history.specs.History.{History}
use Rattle.stack_driver.specs.Targets.{Cell}
use Rattle.transaction_cells.specs.Needs.{is_bare}
use Rattle.transaction_cells.specs.Sites.{id_of}
use Rattle.transaction_cells.specs.Staging.{StagedChunk, staged_of}
use Rattle.transaction_cells.specs.declared.view_cells.Piece.{Piece}

-- a shape, the shape of its chunks, and the index of one of them have one rank
pub record AreRanked (shape chunk index : List ℕ) : Type 0 where
  pub chunks : IsChunkShape chunk
  pub shape_rank : length shape ≡ length chunk
  pub index_rank : length index ≡ length chunk

-- the index of the chunk in an id
abbrev pub index_in : List ℕ → List ℕ
index_in [] = []
index_in (array ∷ index) = index

-- the piece's chunk has this shape, and lies in the grid of an array of that one
pub record IsInGrid (shape chunk : List ℕ) (p : Piece) : Type 0 where
  pub ranks : AreRanked shape chunk (index_in p.id)
  pub size : p.size ≡ cell_count chunk

-- the cell at a place of a chunk lies in the shape
abbrev pub is_place_inside : List ℕ → List ℕ → List ℕ → ℕ → Bool
is_place_inside shape chunk index place = is_inside shape (in_array chunk index (c_index chunk place))

-- at a pair no word is staged, and its cell lies outside the shape
abbrev pub is_pair_outside : List ℕ → List ℕ → List ℕ → List (Option ℕ) → Pair → Bool
is_pair_outside shape chunk index cells pair = is_bare cells pair && not (is_place_inside shape chunk index pair.chunk)

-- so it is at one of the pairs of runs
abbrev pub are_outside : List ℕ → List ℕ → List ℕ → List (Option ℕ) → List Run → Bool
are_outside shape chunk index cells runs = list_any (is_pair_outside shape chunk index cells) (flat_map pairs_of runs)

-- at a cell of the piece that lies outside the shape no word is staged, so that a read needs it
abbrev pub needs_outside : List ℕ → List ℕ → List StagedChunk → Piece → Bool
needs_outside shape chunk chunks p = are_outside shape chunk (index_in p.id) (unwrap_or (staged_of chunks p.id) []) p.runs

-- the cell lies in the chunk of an id, and outside the shape
abbrev pub is_cell_outside : History → List ℕ → List ℕ → Cell → Bool
is_cell_outside events shape id x = bytes_eq (id_of (chunk_of events x)) id && not (is_inside shape x.index)
