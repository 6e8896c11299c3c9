use Rattle.state_cases.proofs.Ready.{ready_kept}
use Rattle.state_cases.proofs.chunks.kept.Goals as goal

pub kept-answer-requires-clause-agrees : goal.kept-answer-requires-clause-agrees
kept-answer-requires-clause-agrees g c = (c.requires.ready.opening, c.requires.ready.agrees)

pub returns : goal.returns
returns g c = ready_kept _ _ _ _ c.requires.ready c.kept-answer.ensures.kept
