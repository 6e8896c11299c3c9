use Rattle.index_intervals.proofs.AroundLemmas.{around_done}
use Rattle.index_intervals.proofs.around.around_all.Goals as goal

pub returns-clause-rule : goal.returns-clause-rule
returns-clause-rule c = around_done c.args.dims.now c.loop-k.all c.loop-k.k c.requires c.loop-k-test.false c.loop-k.invariant
