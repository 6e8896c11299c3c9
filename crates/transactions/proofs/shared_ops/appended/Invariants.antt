use Rattle.std.proofs.Common.{◌≡◌, ◌++◌}
use Rattle.transactions.proofs.shared_ops.appended.Given as goal

-- those so far, and the operations that are left
abbrev pub invariant-loop-op : goal.invariant-loop-op
invariant-loop-op l = l.all.items ++ l.op-iterator.rest.items ≡ l.fn.all.items ++ l.fn.ops.items
