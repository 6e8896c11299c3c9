-- The words of the pairs so far stand at their places, all others are as they were.
use Rattle.std.proofs.Common.{◌≡◌, ◌≢◌, ◌<◌, ℕ, length, get_or}
use Rattle.cells.specs.Runs.{view_place, chunk_place}
use Rattle.rebase_writes.proofs.run.stage_row.Given as goal

abbrev pub invariant-loop-pair : goal.invariant-loop-pair
invariant-loop-pair l = record {
  size : length l.staged ≡ length l.initial.staged;
  done : (k : ℕ) → k < l.pair → get_or l.staged (chunk_place l.run k) 0 ≡ get_or l.words (view_place l.run k) 0;
  rest : (place : ℕ) → ((k : ℕ) → k < l.pair → chunk_place l.run k ≢ place) → get_or l.staged place 0 ≡ get_or l.initial.staged place 0;
}
