use Rattle.std.proofs.Common.{◌≡◌, ◌≤◌, ◌+◌, ◌++◌}
use Rattle.made_scripts.specs.Texts.{parts}
use Rattle.made_scripts.specs.Scripts.{open_again}
use Rattle.made_scripts.proofs.scripts.put_opens.Given as goal

abbrev pub invariant-loop-k : goal.invariant-loop-k
invariant-loop-k l = record {
  within : l.k ≤ 4;
  so_far : l.out.items ≡ l.fn.out.items ++ parts l.k (λ k. open_again (4 + k));
}
