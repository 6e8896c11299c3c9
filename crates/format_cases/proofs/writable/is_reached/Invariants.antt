use Rattle.std.proofs.Common.{ℕ, ◌<◌, ◌*◌, get_or}
use Rattle.format_cases.proofs.writable.is_reached.Given as goal

abbrev pub invariant-loop-k : goal.invariant-loop-k
invariant-loop-k l = (j : ℕ) → j < l.k → get_or l.chunk j 0 * get_or l.block j 0 < get_or l.dimensions j 0
