-- The words so far stand behind those that were kept.
use Rattle.std.proofs.Common.{◌≡◌, ◌+◌, ◌<◌, ◌≤◌, ℕ, length, get_or}
use Rattle.cells.specs.Runs.{view_place}
use Rattle.rebase_writes.proofs.rising.gather.Given as goal

abbrev pub invariant-loop-k : goal.invariant-loop-k
invariant-loop-k l = record {
  room : l.initial.kept.cap ≤ l.kept.cap;
  count : length l.kept.items ≡ length l.initial.kept.items + l.k;
  front : (place : ℕ) → place < length l.initial.kept.items → get_or l.kept.items place 0 ≡ get_or l.initial.kept.items place 0;
  behind : (j : ℕ) → j < l.k → get_or l.kept.items (length l.initial.kept.items + j) 0 ≡ get_or l.words (view_place l.run j) 0;
}
