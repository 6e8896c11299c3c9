use Rattle.std.proofs.Common.{◌≡◌, ◌<◌, ℕ, length, get_or, Some}
use Rattle.transaction_cells.specs.declared.view_cells.Piece.{Piece}
use Rattle.event_replay.specs.declared.demand.AskedPiece.{AskedPiece}
use Rattle.event_replay.specs.Demands.{IsTellingPiece}
use Rattle.event_replay.proofs.demanding.asked_pieces.Given as goal

-- so much was told of the pieces so far
abbrev pub invariant-loop-i : goal.invariant-loop-i
invariant-loop-i l = record {
  count : length l.pieces.items ≡ l.i;
  each : (j : ℕ) (d : Piece) (e : AskedPiece) → j < l.i → IsTellingPiece l.cells l.staging l.words (get_or l.cells.pieces j d).id (Some (get_or l.pieces.items j e));
}
