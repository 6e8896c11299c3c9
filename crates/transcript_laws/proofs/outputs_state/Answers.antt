use Rattle.transcript_laws.proofs.Fit.{outputs_state}
use Rattle.transcript_laws.proofs.outputs_state.Goals as goal

pub returns : goal.returns
returns c scripts history logs is = outputs_state scripts history logs is
