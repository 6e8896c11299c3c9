use Rattle.output_laws.proofs.WholeOutputs.{outputs_fit}
use Rattle.output_laws.proofs.outputs_fit.Goals as goal

pub returns : goal.returns
returns c = outputs_fit
