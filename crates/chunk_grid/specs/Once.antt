-- What a cut into chunks and runs is, cell by cell.
use Rattle.std.specs.Prelude.{◌≡◌, ℕ, ◌+◌, ◌<◌, ◌==◌, false, List, [], ◌∷◌, length, map, slice_index_or, if◌then◌else◌}
use Rattle.std.specs.List.{AllByRecursion}
use Rattle.cells.specs.declared.run.Run.{Run}
use Rattle.cells.specs.Runs.{Pair}
use Rattle.chunk_grid.specs.declared.piece.RunPiece.{RunPiece}
use Rattle.chunk_grid.specs.Grid.{chunk_index, place_within}
use Rattle.chunk_grid.specs.Pieces.{Piece}
use Rattle.chunk_grid.specs.Runs.{goes_on, unrolled}
use Rattle.chunk_grid.specs.Boxes.{AreRising}

-- how often a place of the list of index vectors stands in pairs
abbrev pub times_in : ℕ → List Pair → ℕ
times_in k [] = 0
times_in k (p ∷ pairs) = (if p.view == k then 1 else 0) + times_in k pairs

-- and in those of pieces
abbrev pub times : ℕ → List Piece → ℕ
times k [] = 0
times k (piece ∷ pieces) = times_in k piece.pairs + times k pieces

-- the pair is that of an index vector of the list: it lies in the chunk, at this place
pub record IsPairOf (chunk : List ℕ) (targets : List (List ℕ)) (c : List ℕ) (p : Pair) : Type 0 where
  pub below : p.view < length targets
  pub lies : chunk_index chunk (slice_index_or targets p.view []) ≡ c
  pub stands : p.chunk ≡ place_within chunk (slice_index_or targets p.view [])

-- the next run doesn't begin where this one's steps lead
abbrev pub EndsBefore : Run → List Run → Type 0
EndsBefore run [] = Unit {0}
EndsBefore run (next ∷ runs) = goes_on run (record { view = next.view; chunk = next.chunk }) ≡ false

-- each run is as long as its steps reach
abbrev pub AreLong : List Run → Type 0
AreLong [] = Unit {0}
AreLong (run ∷ runs) = EndsBefore run runs × AreLong runs

-- chunk indices rise strictly in lexical order, each index vector of the list stands once, in its chunk at its place, and runs
-- are as long as their steps reach
pub record IsCut (chunk : List ℕ) (targets : List (List ℕ)) (pieces : List RunPiece) : Type 0 where
  pub rising : AreRising (map (λ piece. piece.chunk) pieces)
  pub once : (k : ℕ) → k < length targets → times k (map unrolled pieces) ≡ 1
  pub placed : AllByRecursion (λ piece. AllByRecursion (IsPairOf chunk targets piece.chunk) piece.pairs) (map unrolled pieces)
  pub long : AllByRecursion (λ piece. AreLong piece.runs) pieces
