use Rattle.std.proofs.Common.{◌≡◌, ℕ, ◌<◌, get_or, length}
use Rattle.cells.specs.Places.{IsInside, c_index}
use Rattle.format_cases.proofs.writable.are_zero_outside.Given as goal

abbrev pub invariant-loop-place : goal.invariant-loop-place
invariant-loop-place l = record {
  room : length l.index ≡ length l.block;
  zero : (p : ℕ) → p < l.place → ¬ IsInside l.sizes (c_index l.block p) → get_or l.words p 0 ≡ 0;
}
