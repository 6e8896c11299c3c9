use Rattle.state_cases.proofs.Ready.{ready_kept}
use Rattle.state_cases.proofs.chunks.look.Goals as goal

pub look-answer-requires-clause-agrees : goal.look-answer-requires-clause-agrees
look-answer-requires-clause-agrees g c = (c.requires.ready.opening, c.requires.ready.agrees)

pub returns : goal.returns
returns g c = ready_kept _ _ _ _ c.requires.ready c.look-answer.ensures.left.kept
