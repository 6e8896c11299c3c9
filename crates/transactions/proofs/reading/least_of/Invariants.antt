use Rattle.transactions.proofs.LeastLaws.{IsLeastUpTo}
use Rattle.transactions.proofs.reading.least_of.Given as goal

-- the least so far
abbrev pub invariant-loop-s : goal.invariant-loop-s
invariant-loop-s g l = IsLeastUpTo l.state.log.events l.strays l.s-index l.array l.least
