use Rattle.output_laws.proofs.FlatOutputs.{outputs_are_flat}
use Rattle.output_laws.proofs.outputs_are_flat.Goals as goal

pub returns : goal.returns
returns c = outputs_are_flat
