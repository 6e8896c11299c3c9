use Rattle.std.proofs.Common.{◌≡◌, drop}
use Rattle.transaction_cells.specs.Needs.{are_bare}
use Rattle.transaction_cells.proofs.staging.are_bare.Given as goal

-- none of the runs so far
abbrev pub invariant-loop-run : goal.invariant-loop-run
invariant-loop-run l = are_bare l.staged (drop l.run-index l.runs) ≡ are_bare l.staged l.runs
