use Rattle.std.proofs.Common.{◌≡◌, drop}
use Rattle.std.specs.List.{list_any}
use Rattle.cells.specs.Runs.{pairs_of}
use Rattle.transaction_cells.specs.Needs.{is_bare}
use Rattle.transaction_cells.proofs.staging.is_bare.Given as goal

-- none of the pairs so far
abbrev pub invariant-loop-k : goal.invariant-loop-k
invariant-loop-k l = list_any (is_bare l.staged) (drop l.k (pairs_of l.run)) ≡ list_any (is_bare l.staged) (pairs_of l.run)
