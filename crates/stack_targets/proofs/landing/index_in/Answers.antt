use Rattle.stack_targets.proofs.Members.{length-has_index, inside-has_index}
use Rattle.stack_targets.proofs.landing.index_in.Goals as goal

pub number-number-requires-clause-rank : goal.number-number-requires-clause-rank
number-number-requires-clause-rank c = length-has_index c.args.transform.now.domain.dims c.args.index.now c.requires.inside

pub number-number-requires-clause-inside : goal.number-number-requires-clause-inside
number-number-requires-clause-inside c = inside-has_index c.args.transform.now.domain.dims c.args.index.now 0 c.requires.inside
