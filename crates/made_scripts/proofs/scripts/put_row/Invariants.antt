use Rattle.std.proofs.Common.{◌≡◌, ◌≤◌, ◌+◌, ◌++◌}
use Rattle.std.specs.Prelude.{codes, decimal}
use Rattle.made_scripts.specs.Texts.{parts, comma_before}
use Rattle.made_scripts.specs.Scripts.{number_at}
use Rattle.made_scripts.proofs.scripts.put_row.Given as goal

abbrev pub invariant-loop-place : goal.invariant-loop-place
invariant-loop-place l = record {
  within : l.place ≤ 1000;
  so_far : l.out.items ≡ (l.fn.out.items ++ codes "[") ++ parts l.place (λ place. comma_before place ++ decimal (number_at l.number (l.from + place)));
}
