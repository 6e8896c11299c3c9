use Rattle.std.proofs.Common.{◌≡◌, take}
use Rattle.kv_mounts.specs.Parts.{names_of}
use Rattle.session_workers.proofs.naming.names_of.Given as goal

-- the names of the first mounts
abbrev pub invariant-loop-mount : goal.invariant-loop-mount
invariant-loop-mount g l = l.names.items ≡ names_of (take l.mount-index l.mounts)
