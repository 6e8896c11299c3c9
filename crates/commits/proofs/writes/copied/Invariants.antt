use Rattle.std.proofs.Common.{◌≡◌, ◌++◌, drop}
use Rattle.std.specs.Prelude.{filter}
use Rattle.history.specs.Commit.{is_write}
use Rattle.commits.proofs.writes.copied.Given as goal

-- the writes so far and those that are left are all
abbrev pub invariant-loop-op : goal.invariant-loop-op
invariant-loop-op l = l.list.items ++ filter is_write (drop l.op-index l.ops) ≡ filter is_write l.ops
