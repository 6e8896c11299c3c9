use Rattle.std.proofs.Common.{◌≡◌, map}
use Rattle.transaction_cells.specs.Along.{numbered}
use Rattle.transaction_cells.proofs.along_runs.all_numbered.Given as goal

-- the pieces so far
abbrev pub invariant-loop-piece : goal.invariant-loop-piece
invariant-loop-piece l = l.all.items ≡ map (numbered l.array l.size) l.yielded
