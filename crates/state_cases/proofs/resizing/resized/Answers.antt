use Rattle.state_cases.proofs.Ready.{ready_kept}
use Rattle.state_cases.proofs.resizing.resized.Goals as goal

pub resize-answer-requires-clause-agrees : goal.resize-answer-requires-clause-agrees
resize-answer-requires-clause-agrees g c = (c.requires.ready.opening, c.requires.ready.agrees)

pub returns : goal.returns
returns g c = ready_kept _ _ _ _ c.requires.ready c.resize-answer.ensures.kept
