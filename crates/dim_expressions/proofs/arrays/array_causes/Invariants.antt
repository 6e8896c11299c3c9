use Rattle.std.proofs.Common.{◌≡◌, ◌≤◌, length, map, drop}
use Rattle.std.specs.List.{enumerate_from}
use Rattle.dim_changes.specs.Causes.{first_cause}
use Rattle.dim_expressions.specs.Arrays.{array_cause}
use Rattle.dim_expressions.proofs.arrays.array_causes.Given as goal

abbrev pub invariant-loop-k : goal.invariant-loop-k
invariant-loop-k l = record {
  within : l.k ≤ length l.selected;
  found : l.cause ≡ first_cause (map (array_cause l.u l.arrays) (enumerate_from l.k (drop l.k l.selected)));
}

abbrev pub decreases-loop-k : goal.decreases-loop-k
decreases-loop-k l = l.k
