use Rattle.std.proofs.Common.{◌≡◌, drop, Some}
use Rattle.transaction_cells.specs.Gathered.{runs_read}
use Rattle.transaction_cells.proofs.gathering.read_runs.Given as goal

-- reading along the rest now gives what reading along all at first gives
abbrev pub invariant-loop-run : goal.invariant-loop-run
invariant-loop-run l = runs_read (drop l.run-index l.runs) (Some l.snapshot) l.out ≡ runs_read l.runs (Some l.snapshot) l.initial.out
