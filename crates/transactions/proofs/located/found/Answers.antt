use Rattle.transactions.proofs.ViewLaws.{leaf_count}
use Rattle.transactions.proofs.located.found.Goals as goal

pub returns-in-Ok-clause-count : goal.returns-in-Ok-clause-count
returns-in-Ok-clause-count c = leaf_count c.args.v.now c.in-Ok.cells c.in-Ok.ensures.sites c.in-Ok.ensures.cells
