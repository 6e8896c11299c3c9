use Rattle.std.proofs.Common.{◌≡◌, ℕ, ◌*◌, ◌<◌, ◌≤◌, length, get_or}
use Rattle.std.specs.Prelude.{if◌then◌else◌}
use Rattle.chunk_laying.specs.Rows.{is_place_inside}
use Rattle.chunk_laying.proofs.laying.fill_outside.Given as goal

-- the rows that are done have the fill past the shape, and the others are as they were
abbrev pub invariant-loop-row : goal.invariant-loop-row
invariant-loop-row l = record {
  dtype : l.cells.dtype ≡ l.fn.cells.dtype;
  shape : l.cells.shape ≡ l.fn.cells.shape;
  size : length l.cells.words ≡ length l.fn.cells.words;
  done : (p : ℕ) → p < l.row * l.rows.len → get_or l.cells.words p 0 ≡ (if is_place_inside l.chunk_shape l.shape l.chunk p then get_or l.fn.cells.words p 0 else l.fill);
  behind : (p : ℕ) → l.row * l.rows.len ≤ p → get_or l.cells.words p 0 ≡ get_or l.fn.cells.words p 0;
}
