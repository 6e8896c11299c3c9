use Rattle.std.proofs.Common.{rules, ◌≡◌, sym, subst}
use Rattle.transform_composition.specs.Transforms.{IsDomain}
use Rattle.stack_driver.specs.Stacks.{stacked_dims, stacked_labels}
use Rattle.stack_driver.proofs.StackRules.{stacked_rules}
use Rattle.stack_driver.proofs.stacking.stacked_domain.Goals as goal

pub returns-clause-rules : goal.returns-clause-rules
returns-clause-rules c =
    let t = c.transform_of.result.now in
    let same : record { dims = c.wrap.result; labels = c.wrap-2.result } ≡ record { dims = stacked_dims 0 t.domain.dims c.args.layers.now; labels = stacked_labels 0 t.domain.labels c.args.layers.now } = search rules in
    subst IsDomain (sym same) (stacked_rules t c.args.layers.now c.domain-first.ensures.well_formed)
