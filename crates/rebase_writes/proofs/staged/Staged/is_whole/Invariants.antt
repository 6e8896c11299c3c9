-- No place so far lies inside without a word.
use Rattle.std.proofs.Common.{◌≡◌, ◌<◌, ℕ, Some, true, IsSome}
use Rattle.std.specs.Prelude.{slice_get}
use Rattle.rebase_writes.specs.Staged.{staged_at}
use Rattle.rebase_writes.proofs.staged.Staged.is_whole.Given as goal

abbrev pub invariant-loop-place : goal.invariant-loop-place
invariant-loop-place l = (k : ℕ) → k < l.place → slice_get l.inside k ≡ Some true → IsSome (staged_at l.self k)
