use Rattle.std.proofs.Common.{◌≡◌, map}
use Rattle.transaction_cells.specs.Cuts.{piece_of}
use Rattle.transaction_cells.proofs.cuts.pieces_of.Given as goal

-- the pieces of the entries so far
abbrev pub invariant-loop-id : goal.invariant-loop-id
invariant-loop-id l = l.pieces.items ≡ map (piece_of l.lanes) l.yielded
