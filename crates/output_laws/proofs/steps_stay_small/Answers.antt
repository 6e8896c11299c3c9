use Rattle.output_laws.proofs.SmallSteps.{applied_small}
use Rattle.output_laws.proofs.steps_stay_small.Goals as goal

pub returns : goal.returns
returns c = λ u steps labels small given. applied_small u steps (record { few = small.few; labels = labels }) small given
