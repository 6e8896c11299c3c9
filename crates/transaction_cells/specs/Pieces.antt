-- The cells of a view by chunks.
use Rattle.std.specs.Prelude.{◌≡◌, ◌≢◌, ℕ, List, [], map, Contains}
use Rattle.std.specs.List.{AllByRecursion}
use Rattle.std.specs.List.Sorted.{IsStrictlySortedBy}
use Rattle.std.specs.Ordering.{nat_cmp}
use Rattle.std.specs.Cmp.Lexicographic.{slice_cmp}
use Rattle.strided_runs.specs.Runs.{runs_of_pairs}
use Rattle.transaction_cells.specs.Casting.{HasLane, casts_at}
use Rattle.transaction_cells.specs.Sites.{Site, pairs_at}
use Rattle.transaction_cells.specs.declared.view_cells.Piece.{Piece}
use Rattle.transaction_cells.specs.declared.view_cells.ViewCells.{ViewCells}

abbrev pub ids_of : List Piece → List (List ℕ)
ids_of pieces = map (λ (p : Piece). p.id) pieces

-- the piece has cells, their pairs cut into runs, and their chunk's size
pub record IsPiece (sites : List Site) (p : Piece) : Type 0 where
  pub some : pairs_at p.id 0 sites ≢ []
  pub runs : p.runs ≡ runs_of_pairs (pairs_at p.id 0 sites)
  pub size : AllByRecursion (λ (s : Site). s.id ≡ p.id → s.size ≡ p.size) sites

-- there is one piece for each chunk that has a cell, in lexical order of the ids
pub record ArePieces (sites : List Site) (pieces : List Piece) : Type 0 where
  pub sorted : IsStrictlySortedBy (slice_cmp nat_cmp) (ids_of pieces)
  pub each : AllByRecursion (IsPiece sites) pieces
  pub all : AllByRecursion (λ (s : Site). Contains (ids_of pieces) s.id) sites

-- the leaves and pieces of the cells at these sites
pub record AreCells (sites : List Site) (cells : ViewCells) : Type 0 where
  pub lanes : AllByRecursion (HasLane cells.lanes) cells.leaves
  pub casts : map (λ (s : Site). s.target.casts) sites ≡ map (casts_at cells.lanes) cells.leaves
  pub pieces : ArePieces sites cells.pieces
