use Rattle.std.proofs.Common.{◌<◌, ℕ, get_or}
use Rattle.event_replay.specs.declared.Piece.{Piece}
use Rattle.line_fits.specs.StoredPuts.{IsStoredAt}
use Rattle.line_fits.proofs.failing.has_stored_piece.Given as goal

-- no chunk so far is of a stored array
abbrev pub invariant-loop-i : goal.invariant-loop-i
invariant-loop-i l = (k : ℕ) → k < l.i → (d : Piece) → ¬ IsStoredAt l.opened l.stored (get_or (get_or l.pieces k d).id 0 0)
