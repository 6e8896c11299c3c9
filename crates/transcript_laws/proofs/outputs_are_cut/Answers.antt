use Rattle.transcript_laws.proofs.Cut.{outputs_are_cut}
use Rattle.transcript_laws.proofs.outputs_are_cut.Goals as goal

pub returns : goal.returns
returns c scripts history logs is printable = outputs_are_cut scripts history logs is printable
