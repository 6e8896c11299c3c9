use Rattle.std.proofs.Common.{◌≡◌, ℕ, List, drop, length}
use Rattle.cells.specs.Written.{words_seen}
use Rattle.transaction_cells.specs.Found.{found}
use Rattle.transaction_cells.specs.Tables.{pieces_written, MayWrite}
use Rattle.transaction_cells.proofs.staging.write.Given as goal

-- writing the rest now gives what writing all at first gives
abbrev pub invariant-loop-piece : goal.invariant-loop-piece
invariant-loop-piece l = record {
  rest : (id : List ℕ) → pieces_written (drop l.piece-index l.pieces) id (words_seen l.words) (found l.table.entries id) ≡ pieces_written l.pieces id (words_seen l.words) (found l.initial.table.entries id);
  may : (id : List ℕ) → MayWrite (drop l.piece-index l.pieces) id (length (words_seen l.words)) (found l.table.entries id);
}
