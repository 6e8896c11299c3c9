use Rattle.std.proofs.Common.{◌≡◌, ◌++◌, map}
use Rattle.kv_face.specs.Table.{change_of}
use Rattle.kv_face.proofs.table.share_all.Given as goal

-- the changes so far and those that are left
abbrev pub invariant-loop-change : goal.invariant-loop-change
invariant-loop-change l = map change_of l.all.items ++ l.change-iterator.rest.items ≡ l.fn.changes.items
