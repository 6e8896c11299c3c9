use Rattle.std.proofs.Common.{◌≡◌, ℕ, ◌<◌, get_or}
use Rattle.cells.specs.Items.{words_in}
use Rattle.cells.proofs.items.fill_each.Given as goal

abbrev pub invariant-loop-place : goal.invariant-loop-place
invariant-loop-place l = (k : ℕ) → k < l.place → get_or (words_in l.dtype l.cells l.bytes) k 0 ≡ l.word
