use Rattle.std.proofs.Common.{◌∙◌, ◌++◌, ◌∷◌, [], List, sym, ap}
use Rattle.transform_composition.specs.Bounds.{Bounds}
use Rattle.transform_composition.specs.Around.{around_all}
use Rattle.stack_driver.specs.Stacks.{column}
use Rattle.stack_driver.proofs.StackRules.{stacked_dims-step}
use Rattle.stack_driver.proofs.stacking.stacked_dims.Goals as goal

pub loop-k-preserved : goal.loop-k-preserved
loop-k-preserved c =
    let front = c.loop-k.all.items in
    let here = c.around_all.ensures.value ∙ ap around_all (c.deref.ensures.value ∙ c.in_ok-column.ensures) in
    c.in_ok-push.ensures.items ∙ ap (λ (d : Bounds). front ++ d ∷ []) here ∙ ap (λ (ds : List Bounds). ds ++ around_all (column c.loop-k.k c.index-dims-k.result c.args.layers.now) ∷ []) c.loop-k.invariant
    ∙ sym (stacked_dims-step c.args.dims.now c.loop-k.k c.index-dims-k.result c.args.layers.now c.loop-k-test.true c.index-dims-k.is)
