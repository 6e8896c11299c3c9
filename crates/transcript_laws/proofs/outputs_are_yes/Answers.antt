use Rattle.transcript_laws.proofs.Yes.{outputs_are_yes}
use Rattle.transcript_laws.proofs.outputs_are_yes.Goals as goal

pub returns : goal.returns
returns c scripts history logs is printable = outputs_are_yes scripts history logs is printable
