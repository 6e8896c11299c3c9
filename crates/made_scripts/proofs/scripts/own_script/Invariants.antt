use Rattle.std.proofs.Common.{◌≡◌, ◌≤◌, ◌++◌}
use Rattle.made_scripts.specs.Texts.{parts}
use Rattle.made_scripts.specs.Scripts.{open_own, write_own, own_block}
use Rattle.made_scripts.proofs.scripts.own_script.Given as goal

abbrev pub invariant-loop-block : goal.invariant-loop-block
invariant-loop-block l = record {
  within : l.block ≤ 10;
  so_far : l.out.items ≡ (open_own l.session ++ write_own l.number) ++ parts l.block own_block;
}
