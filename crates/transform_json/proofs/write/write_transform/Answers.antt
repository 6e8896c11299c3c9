use Rattle.std.proofs.Common.{ap, ◌∙◌}
use Rattle.serde_json.proofs.Views.{view-Object}
use Rattle.serde_json.specs.Written.{has_float}
use Rattle.transform_json.specs.Transforms.{transform_of}
use Rattle.transform_json.proofs.Again.{transform_again}
use Rattle.transform_json.proofs.NoFloats.{transform-plain}
use Rattle.transform_json.proofs.write.write_transform.Goals as goal

pub returns-clause-again : goal.returns-clause-again
returns-clause-again c = λ some.
    let told = c.in_ok-members_of_transform.ensures in
    ap transform_of (view-Object c.in_ok-members_of_transform.field-0 ∙ told.value) ∙ transform_again c.args.t.now told.well_formed told.bounds told.words some

pub returns-clause-plain : goal.returns-clause-plain
returns-clause-plain c = ap has_float (view-Object c.in_ok-members_of_transform.field-0 ∙ c.in_ok-members_of_transform.ensures.value) ∙ transform-plain c.args.t.now
