use Rattle.std.proofs.Common.{◌≡◌, ℕ, false, length, get_or}
use Rattle.stated_arrays.proofs.lines.falses.Given as goal

abbrev pub invariant-loop-k : goal.invariant-loop-k
invariant-loop-k l = record {
  len : length l.all.items ≡ l._k;
  none : (k : ℕ) → get_or l.all.items k false ≡ false;
}
