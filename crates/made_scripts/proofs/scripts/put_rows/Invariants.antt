use Rattle.std.proofs.Common.{◌≡◌, ◌≤◌, ◌+◌, ◌*◌, ◌++◌}
use Rattle.std.specs.Prelude.{codes}
use Rattle.made_scripts.specs.Texts.{parts, comma_before}
use Rattle.made_scripts.specs.Scripts.{row_text}
use Rattle.made_scripts.proofs.scripts.put_rows.Given as goal

abbrev pub invariant-loop-place : goal.invariant-loop-place
invariant-loop-place l = record {
  within : l.place ≤ 25;
  so_far : l.out.items ≡ (l.fn.out.items ++ codes "[") ++ parts l.place (λ place. comma_before place ++ row_text l.number (1000 * (l.first + 4 * place)));
}
