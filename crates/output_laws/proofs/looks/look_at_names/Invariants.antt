use Rattle.std.proofs.Common.{◌<◌, ℕ, get_or, IsUtf8, []}
use Rattle.output_laws.proofs.looks.look_at_names.Given as goal

abbrev pub invariant-loop-i : goal.invariant-loop-i
invariant-loop-i l = (k : ℕ) → k < l.i → IsUtf8 (get_or l.names k [])
