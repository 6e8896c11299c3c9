use Rattle.std.proofs.Common.{ap, ◌∙◌}
use Rattle.serde_json.proofs.Views.{view-Object}
use Rattle.serde_json.specs.Written.{has_float}
use Rattle.transform_json.proofs.NoFloats.{domain-plain}
use Rattle.transform_json.proofs.write.write_domain.Goals as goal

pub returns-clause-plain : goal.returns-clause-plain
returns-clause-plain c = ap has_float (view-Object c.in_ok-members_of_domain.field-0 ∙ c.in_ok-members_of_domain.ensures) ∙ domain-plain c.args.d.now
