use Rattle.output_laws.proofs.WholeOutputs.{outputs_printable}
use Rattle.output_laws.proofs.outputs_are_printable.Goals as goal

pub returns : goal.returns
returns c = outputs_printable
