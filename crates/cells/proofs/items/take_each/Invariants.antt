use Rattle.std.proofs.Common.{◌≡◌, ℕ, ◌<◌, length, get_or}
use Rattle.cells.specs.Items.{words_in}
use Rattle.cells.proofs.items.take_each.Given as goal

abbrev pub invariant-loop-place : goal.invariant-loop-place
invariant-loop-place l = (k : ℕ) → k < l.place → get_or l.words k 0 ≡ get_or (words_in l.fn.dtype (length l.words) l.bytes) k 0
