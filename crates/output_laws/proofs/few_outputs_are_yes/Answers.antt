use Rattle.output_laws.proofs.WholeOutputs.{outputs_yes}
use Rattle.output_laws.proofs.few_outputs_are_yes.Goals as goal

pub returns : goal.returns
returns c = outputs_yes
