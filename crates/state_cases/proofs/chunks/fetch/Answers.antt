use Rattle.state_cases.proofs.Ready.{ready_kept}
use Rattle.state_cases.proofs.chunks.fetch.Goals as goal

pub fetch-answer-requires-clause-agrees : goal.fetch-answer-requires-clause-agrees
fetch-answer-requires-clause-agrees g c = (c.requires.ready.opening, c.requires.ready.agrees)

pub returns : goal.returns
returns g c = ready_kept _ _ _ _ c.requires.ready c.fetch-answer.ensures.left.kept
