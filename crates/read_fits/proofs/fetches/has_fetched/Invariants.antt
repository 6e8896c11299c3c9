use Rattle.std.proofs.Common.{◌<◌, ℕ, get_or}
use Rattle.transaction_cells.specs.declared.view_cells.Piece.{Piece}
use Rattle.read_fits.specs.Fetches.{IsFetchedPiece}
use Rattle.read_fits.proofs.fetches.has_fetched.Given as goal

-- none of the pieces so far is fetched
abbrev pub invariant-loop-i : goal.invariant-loop-i
invariant-loop-i l = (j : ℕ) (d : Piece) → j < l.i → IsFetchedPiece l.openings.events l.own.staging l.own.reads.set.keys (get_or l.cells.pieces j d) → ⊥
