-- A view of one array, by the runs in which its cells lie.
use Rattle.std.specs.Prelude.{◌≡◌, ℕ, List, ◌∷◌, map, Some}
use Rattle.std.specs.List.{All}
use Rattle.chunk_grid.specs.Grid.{IsInShape, numbers}
use Rattle.chunk_grid.specs.declared.piece.RunPiece.{RunPiece}
use Rattle.index_transform.specs.Cells.{cells_of}
use Rattle.index_transform.specs.Transforms.{DomainAndMaps}
use Rattle.index_transform.specs.Values.{value_at}
use Rattle.stack_driver.specs.References.{Reference}
use Rattle.stack_driver.specs.Renewed.{array_of}
use Rattle.stack_driver.specs.Views.{own_transform}
use Rattle.stack_driver.specs.declared.view.View.{View}
use Rattle.transaction_cells.specs.declared.view_cells.Piece.{Piece}

-- the view is of this array, through casts, and none of its cells leaves the array's shape
pub record IsWithin (v : View) (array : Reference) : Type 0 where
  pub of_array : array_of v ≡ Some array
  pub inside : All (λ cell. IsInShape array.shape (value_at (own_transform v) cell)) (cells_of (own_transform v).domain.dims)

-- the index vectors at which the cells of a transform's domain lie, in C order
abbrev pub targets_along : DomainAndMaps → List (List ℕ)
targets_along t = map (λ cell. numbers (value_at t cell)) (cells_of t.domain.dims)

-- the piece of a chunk, by its array's number and how many cells it has
abbrev pub numbered : ℕ → ℕ → RunPiece → Piece
numbered array size piece = record { id = array ∷ piece.chunk; size = size; runs = piece.runs }
