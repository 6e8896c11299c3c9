use Rattle.std.proofs.Common.{ℕ, List, drop}
use Rattle.commits.specs.Planning.{IsMountFor}
use Rattle.commits.proofs.mount.mount_of_writes.Given as goal

-- a mount for the writes that are left is one for all
abbrev pub invariant-loop-write : goal.invariant-loop-write
invariant-loop-write g l = (mount : List ℕ) → IsMountFor l.state.log.events (drop l.write-index l.writes) mount → IsMountFor l.state.log.events l.writes mount
