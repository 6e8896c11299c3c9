use Rattle.std.proofs.Common.{◌≡◌, ◌≤◌, ◌++◌}
use Rattle.made_scripts.specs.Texts.{parts}
use Rattle.made_scripts.specs.Scripts.{open_shared, write_block}
use Rattle.made_scripts.proofs.scripts.shared_script.Given as goal

abbrev pub invariant-loop-block : goal.invariant-loop-block
invariant-loop-block l = record {
  within : l.block ≤ 10;
  so_far : l.out.items ≡ open_shared ++ parts l.block (write_block l.number l.session);
}
