use Rattle.std.proofs.Common.{◌≡◌, ◌++◌, true}
use Rattle.kv_mounts.specs.Parts.{all_below, shortened}
use Rattle.kv_mounts.proofs.shorter.shorter.Given as goal

-- the changes that are left
abbrev pub invariant-loop-change : goal.invariant-loop-change
invariant-loop-change l = record {
  made : l.all.items ++ shortened l.name l.change-iterator.rest.items ≡ shortened l.name l.fn.changes.items;
  below : all_below l.name l.change-iterator.rest.items 0 ≡ true;
}
