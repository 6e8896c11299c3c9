use Rattle.std.proofs.Common.{◌≡◌, drop, length}
use Rattle.transaction_cells.specs.Found.{found}
use Rattle.transaction_cells.specs.Gathered.{pieces_gathered, FitPieces}
use Rattle.transaction_cells.proofs.gathering.fill.Given as goal

-- putting the rest now gives what putting all at first gives
abbrev pub invariant-loop-k : goal.invariant-loop-k
invariant-loop-k l = record {
  rest : pieces_gathered (found l.table.entries) (drop l.k l.pieces) (drop l.k l.chunks) l.out ≡ pieces_gathered (found l.table.entries) l.pieces l.chunks l.initial.out;
  fit : FitPieces (found l.table.entries) (length l.initial.out) (drop l.k l.pieces) (drop l.k l.chunks);
}
