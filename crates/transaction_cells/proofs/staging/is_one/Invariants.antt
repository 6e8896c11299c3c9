-- The words so far are the first.
use Rattle.std.proofs.Common.{◌≡◌, ◌<◌, ℕ, true, get_or}
use Rattle.transaction_cells.proofs.staging.is_one.Given as goal

abbrev pub invariant-loop-word : goal.invariant-loop-word
invariant-loop-word l = l.same ≡ true → (k : ℕ) → k < l.word-index → get_or l.words k 0 ≡ l.first
