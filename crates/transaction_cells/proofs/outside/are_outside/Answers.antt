use Rattle.transaction_cells.proofs.NeedLaws.{run_in}
use Rattle.transaction_cells.proofs.outside.are_outside.Goals as goal

pub has_outside-requires-clause-run : goal.has_outside-requires-clause-run
has_outside-requires-clause-run c = run_in c.args.size c.args.runs.now c.loop-run.run-index _ c.requires.runs c.loop-run-test.true
