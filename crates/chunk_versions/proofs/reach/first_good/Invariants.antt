use Rattle.std.proofs.Common.{◌≡◌, ℕ, ◌<◌, max, get_or}
use Rattle.chunk_versions.specs.Reach.{reached, IsGood}
use Rattle.chunk_versions.proofs.reach.first_good.Given as goal

-- none before was left, and the greatest entry before leads to the next one
abbrev pub invariant-loop-k : goal.invariant-loop-k
invariant-loop-k l = record {
  none : (j : ℕ) → j < l.k → ¬ IsGood l.reach j;
  next : max l.far (get_or l.reach l.k 0) ≡ reached l.reach l.k;
}
