-- The words so far are the one.
use Rattle.std.proofs.Common.{◌≡◌, ◌<◌, ℕ, true, get_or}
use Rattle.rebase_writes.proofs.rising.is_each.Given as goal

abbrev pub invariant-loop-other : goal.invariant-loop-other
invariant-loop-other l = l.same ≡ true → (k : ℕ) → k < l.other-index → get_or l.words k 0 ≡ l.word
