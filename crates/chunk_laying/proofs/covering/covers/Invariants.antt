use Rattle.std.proofs.Common.{◌≡◌, ℕ, ◌*◌, ◌<◌, true}
use Rattle.std.specs.Prelude.{IsSome}
use Rattle.rebase_writes.specs.Staged.{staged_at}
use Rattle.chunk_laying.specs.Rows.{is_place_inside}
use Rattle.chunk_laying.proofs.covering.covers.Given as goal

-- each place of the rows that are done has a staged word, if it is inside
abbrev pub invariant-loop-row : goal.invariant-loop-row
invariant-loop-row l = (p : ℕ) → p < l.row * l.rows.len → is_place_inside l.chunk_shape l.shape l.chunk p ≡ true → IsSome (staged_at l.staged p)
