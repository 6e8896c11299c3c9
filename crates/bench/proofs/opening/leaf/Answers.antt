use Rattle.std.proofs.Common.{rules}
use Rattle.bench.proofs.CommitLaws.{leaf_known, leaf_view}
use Rattle.bench.proofs.opening.leaf.Goals as goal

pub returns-clause-view : goal.returns-clause-view
returns-clause-view c = leaf_view c.args.array c.in_ok-transform.transform (search rules)

pub returns-clause-refs : goal.returns-clause-refs
returns-clause-refs c = λ events known. leaf_known events c.args.array c.in_ok-transform.transform known
