use Rattle.std.proofs.Common.{◌≡◌, drop, length}
use Rattle.cells.specs.Written.{words_seen}
use Rattle.transaction_cells.specs.Tables.{runs_written}
use Rattle.transaction_cells.proofs.staging.write_runs.Given as goal

-- writing the rest now gives what writing all at first gives
abbrev pub invariant-loop-run : goal.invariant-loop-run
invariant-loop-run l = record {
  rest : runs_written (drop l.run-index l.runs) (words_seen l.words) l.staged ≡ runs_written l.runs (words_seen l.words) l.initial.staged;
  size : length l.staged ≡ length l.initial.staged;
}
