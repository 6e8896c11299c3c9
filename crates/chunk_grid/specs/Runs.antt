-- The chunks of a view, with its pairs cut into runs.
use Rattle.std.specs.Prelude.{ℕ, List, map}
use Rattle.std.specs.List.{flat_map}
pub use Rattle.cells.specs.Runs.{pairs_of}
pub use Rattle.strided_runs.specs.Runs.{run_of_one, goes_on, longer, cut_from, runs_of_pairs}
use Rattle.chunk_grid.specs.declared.piece.RunPiece.{RunPiece}
use Rattle.chunk_grid.specs.Pieces.{Piece, pieces_by_chunk}

-- the chunks that occur, in lexical order, each with its pairs cut into runs
abbrev pub run_pieces : List ℕ → List (List ℕ) → List RunPiece
run_pieces chunk targets =
    map (λ piece. record { chunk = piece.chunk; runs = runs_of_pairs piece.pairs }) (pieces_by_chunk chunk targets)

-- a piece with the pairs of its runs
abbrev pub unrolled : RunPiece → Piece
unrolled piece = record { chunk = piece.chunk; pairs = flat_map pairs_of piece.runs }
