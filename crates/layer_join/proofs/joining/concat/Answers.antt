use Rattle.layer_join.proofs.joining.concat.Goals as goal

pub returns-in-None-clause-apart : goal.returns-in-None-clause-apart
returns-in-None-clause-apart c = c.concatenated.ensures.apart
