use Rattle.std.proofs.Common.{◌<◌, ℕ, get_or, pos}
use Rattle.output_laws.specs.Plain.{IsWhole}
use Rattle.output_laws.proofs.looks.look_at_all_indices.Given as goal

abbrev pub invariant-loop-z : goal.invariant-loop-z
invariant-loop-z l = (k : ℕ) → k < l.z-index → IsWhole (get_or l.zs k (pos 0))
