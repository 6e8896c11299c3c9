use Rattle.state_cases.proofs.Ready.{ready_kept}
use Rattle.state_cases.proofs.opens.of_shape.Goals as goal

pub open_local-answer-requires-clause-agrees : goal.open_local-answer-requires-clause-agrees
open_local-answer-requires-clause-agrees g c = (c.requires.opening, c.requires.agrees)

pub returns : goal.returns
returns g c = ready_kept _ _ _ _ c.requires c.open_local-answer.ensures.kept
