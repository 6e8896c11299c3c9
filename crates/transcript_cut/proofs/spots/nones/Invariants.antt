use Rattle.std.proofs.Common.{◌≡◌, ℕ, None, length, get_or}
use Rattle.transcript_cut.proofs.spots.nones.Given as goal

abbrev pub invariant-loop-k : goal.invariant-loop-k
invariant-loop-k l = record {
  len : length l.slots.items ≡ l._k;
  none : (k : ℕ) → get_or l.slots.items k None ≡ None;
}
