use Rattle.transcript_laws.proofs.Fit.{outputs_are_answered}
use Rattle.transcript_laws.proofs.outputs_are_answered.Goals as goal

pub returns : goal.returns
returns c scripts history logs is = outputs_are_answered scripts history logs is
