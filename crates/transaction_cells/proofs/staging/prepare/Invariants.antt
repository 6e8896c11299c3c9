use Rattle.std.proofs.Common.{◌≡◌, ℕ, List, drop}
use Rattle.transaction_cells.specs.Found.{found}
use Rattle.transaction_cells.specs.Tables.{prepared, HasSameWords}
use Rattle.transaction_cells.proofs.staging.prepare.Given as goal

-- preparing the rest now gives what preparing all at first gives
abbrev pub invariant-loop-piece : goal.invariant-loop-piece
invariant-loop-piece l = record {
  rest : (id : List ℕ) → prepared (drop l.piece-index l.pieces) id (found l.table.entries id) ≡ prepared l.pieces id (found l.initial.table.entries id);
  words : (id : List ℕ) → HasSameWords (found l.initial.table.entries id) (found l.table.entries id);
}
