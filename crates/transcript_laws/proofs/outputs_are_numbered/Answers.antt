use Rattle.transcript_laws.proofs.Numbered.{outputs_are_numbered}
use Rattle.transcript_laws.proofs.outputs_are_numbered.Goals as goal

pub returns : goal.returns
returns c scripts history logs is = outputs_are_numbered scripts history logs is
