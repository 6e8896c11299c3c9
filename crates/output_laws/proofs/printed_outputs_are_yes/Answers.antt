use Rattle.output_laws.proofs.Printed.{printed_outputs_are_yes}
use Rattle.output_laws.proofs.printed_outputs_are_yes.Goals as goal

pub returns : goal.returns
returns c = printed_outputs_are_yes
