use Rattle.std.proofs.Common.{◌<◌, ℕ, get_or, []}
use Rattle.std.specs.List.{AllByRecursion}
use Rattle.output_laws.specs.Typed.{IsTypedAnswer}
use Rattle.output_laws.proofs.logs.look_at_logs.Given as goal

abbrev pub invariant-loop-i : goal.invariant-loop-i
invariant-loop-i l = (k : ℕ) → k < l.i → AllByRecursion IsTypedAnswer (get_or l.logs k [])
