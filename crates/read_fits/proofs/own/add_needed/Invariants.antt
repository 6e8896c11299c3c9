use Rattle.std.proofs.Common.{◌≡◌, ◌||◌, ℕ, List, take}
use Rattle.read_fits.specs.Owned.{has_id, is_needed}
use Rattle.read_fits.proofs.own.add_needed.Given as goal

-- the chunks of the pieces so far that are needed are there too
abbrev pub invariant-loop-i : goal.invariant-loop-i
invariant-loop-i l = (id : List ℕ) → has_id l.ids.set.keys id ≡ (is_needed l.staging (take l.i l.cells.pieces) id || has_id l.initial.ids.set.keys id)
