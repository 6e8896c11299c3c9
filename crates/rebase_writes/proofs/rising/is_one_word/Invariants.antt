-- The words so far are the first.
use Rattle.std.proofs.Common.{◌≡◌, ◌<◌, ℕ, get_or}
use Rattle.cells.specs.Runs.{view_place}
use Rattle.rebase_writes.proofs.rising.is_one_word.Given as goal

abbrev pub invariant-loop-k : goal.invariant-loop-k
invariant-loop-k l = (j : ℕ) → j < l.k → get_or l.words (view_place l.run j) 0 ≡ get_or l.words (view_place l.run 0) 0
