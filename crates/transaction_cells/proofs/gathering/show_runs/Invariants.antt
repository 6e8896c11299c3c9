use Rattle.std.proofs.Common.{◌≡◌, drop, Some}
use Rattle.transaction_cells.specs.Gathered.{runs_shown}
use Rattle.transaction_cells.proofs.gathering.show_runs.Given as goal

-- showing along the rest now gives what showing along all at first gives
abbrev pub invariant-loop-run : goal.invariant-loop-run
invariant-loop-run l = runs_shown (drop l.run-index l.runs) (Some l.staged) l.out ≡ runs_shown l.runs (Some l.staged) l.initial.out
