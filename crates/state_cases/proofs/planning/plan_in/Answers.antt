use Rattle.std.proofs.Common.{subst}
use Rattle.rebase_writes.specs.Staged.{AreWords}
use Rattle.state_cases.proofs.planning.plan_in.Goals as goal

pub plan_staged-requires-clause-words : goal.plan_staged-requires-clause-words
plan_staged-requires-clause-words g c = subst (λ d. AreWords d c.in_ok-staged.staged) c.dtype.ensures c.in_ok-staged.ensures.words
