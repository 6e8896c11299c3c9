use Rattle.std.proofs.Common.{◌≡◌, ℕ, ◌*◌, ◌<◌, false, None}
use Rattle.rebase_writes.specs.Staged.{staged_at}
use Rattle.chunk_laying.specs.Rows.{is_place_inside}
use Rattle.chunk_laying.proofs.within.stays_within.Given as goal

-- each place of the rows that are done has no staged word, if it is past the shape
abbrev pub invariant-loop-row : goal.invariant-loop-row
invariant-loop-row l = (p : ℕ) → p < l.row * l.rows.len → is_place_inside l.chunk_shape l.shape l.chunk p ≡ false → staged_at l.staged p ≡ None
