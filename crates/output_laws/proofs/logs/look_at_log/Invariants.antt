use Rattle.std.proofs.Common.{◌<◌, ℕ, get_or}
use Rattle.output_laws.specs.Typed.{IsTypedAnswer}
use Rattle.output_laws.proofs.TypedBodies.{no_answer}
use Rattle.output_laws.proofs.logs.look_at_log.Given as goal

abbrev pub invariant-loop-i : goal.invariant-loop-i
invariant-loop-i l = (k : ℕ) → k < l.i → IsTypedAnswer (get_or l.log k no_answer)
