use Rattle.std.proofs.Common.{◌≡◌, ◌++◌, drop}
use Rattle.kv_face.specs.Store.{keys_of}
use Rattle.commits.specs.Writes.{stored_write_keys}
use Rattle.commits.proofs.stored.stored_changes.Given as goal

-- the keys so far and those of the writes that are left are all
abbrev pub invariant-loop-write : goal.invariant-loop-write
invariant-loop-write g l = keys_of l.changes.items ++ stored_write_keys l.state.log.events (drop l.write-index l.writes) ≡ stored_write_keys l.state.log.events l.writes
