use Rattle.std.proofs.Common.{◌≡◌, ◌≤◌}
use Rattle.std.specs.Prelude.{map}
use Rattle.std.specs.List.{range_with_len}
use Rattle.made_scripts.specs.Scripts.{script_of}
use Rattle.made_scripts.proofs.scripts.make_scripts.Given as goal

abbrev pub invariant-loop-session : goal.invariant-loop-session
invariant-loop-session l = record {
  within : l.session ≤ 9;
  so_far : map (λ v. v.items) l.scripts.items ≡ map (script_of l.number) (range_with_len 0 l.session);
}
