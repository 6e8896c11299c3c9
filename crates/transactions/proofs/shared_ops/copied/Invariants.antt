use Rattle.std.proofs.Common.{◌≡◌, ◌++◌, drop}
use Rattle.transactions.proofs.shared_ops.copied.Given as goal

-- those so far, and the operations that are left
abbrev pub invariant-loop-op : goal.invariant-loop-op
invariant-loop-op l = l.all.items ++ drop l.op-index l.ops ≡ l.ops
