use Rattle.std.proofs.Common.{length}
use Rattle.transaction_cells.proofs.NeedLaws.{run_in}
use Rattle.transaction_cells.proofs.staging.are_bare.Goals as goal

pub is_bare-requires-clause-run : goal.is_bare-requires-clause-run
is_bare-requires-clause-run c = run_in (length c.args.staged.now) c.args.runs.now c.loop-run.run-index _ c.requires.runs c.loop-run-test.true
