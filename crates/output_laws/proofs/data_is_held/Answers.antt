use Rattle.output_laws.proofs.JsonData.{data_held}
use Rattle.output_laws.proofs.data_is_held.Goals as goal

pub returns : goal.returns
returns c = data_held
