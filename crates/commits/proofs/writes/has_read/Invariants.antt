use Rattle.std.proofs.Common.{◌≡◌, drop}
use Rattle.std.specs.Prelude.{filter}
use Rattle.history.specs.Commit.{is_write}
use Rattle.commits.proofs.writes.has_read.Given as goal

-- where the operations that are left are writes, all are
abbrev pub invariant-loop-op : goal.invariant-loop-op
invariant-loop-op l = filter is_write (drop l.op-index l.ops) ≡ drop l.op-index l.ops → filter is_write l.ops ≡ l.ops
