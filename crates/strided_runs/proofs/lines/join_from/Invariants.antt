use Rattle.std.proofs.Common.{◌≡◌, ◌∷◌, ◌++◌, drop}
use Rattle.strided_runs.specs.Loops.{joined}
use Rattle.strided_runs.proofs.LineJoins.{AreSmall}
use Rattle.strided_runs.proofs.lines.join_from.Given as goal

-- what is kept, and the rest joined
abbrev pub invariant-loop-inner : goal.invariant-loop-inner
invariant-loop-inner l = record {
  same : l.kept.items ++ joined l.outer (drop l.inner-index l.loops) ≡ joined l.fn.first l.loops;
  small : AreSmall (l.outer ∷ drop l.inner-index l.loops) 0;
}
