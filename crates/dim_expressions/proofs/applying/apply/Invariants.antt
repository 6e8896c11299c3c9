use Rattle.std.proofs.Common.{◌≡◌, take, drop}
use Rattle.dim_expressions.specs.Applying.{IsAfterAll, applied_from, applied}
use Rattle.dim_expressions.proofs.applying.apply.Given as goal

abbrev pub invariant-loop-k : goal.invariant-loop-k
invariant-loop-k l = record {
  left : applied_from l.k l.now (drop l.k l.steps) ≡ applied l.t l.steps;
  done : IsAfterAll l.t (take l.k l.steps) l.now;
}
