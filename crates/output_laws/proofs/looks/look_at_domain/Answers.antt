use Rattle.output_laws.proofs.Plain.{domain_plain}
use Rattle.output_laws.proofs.looks.look_at_domain.Goals as goal

pub returns : goal.returns
returns c = domain_plain c.args.domain.now c.look_at_dims.ensures c.look_at_labels.ensures
