use Rattle.std.proofs.Common.{◌∙◌, ◌++◌, ◌∷◌, [], List, cond, sym, ap}
use Rattle.std.specs.List.{list_any}
use Rattle.transform_composition.specs.Bounds.{Bounds}
use Rattle.transform_composition.specs.Members.{effective_bounds}
use Rattle.stack_driver.specs.Renewed.{goes_from}
use Rattle.stack_driver.proofs.Renewals.{opened_dims-step}
use Rattle.stack_driver.proofs.renewing.opened_dims.Goals as goal

pub loop-k-preserved : goal.loop-k-preserved
loop-k-preserved c =
    let front = c.loop-k.all.items in
    let d = c.index-dims-k.result in
    c.in_ok-push.ensures.items ∙ ap (λ (e : Bounds). front ++ e ∷ []) c.opened_dim.ensures
    ∙ ap (λ (ds : List Bounds). ds ++ cond (list_any (goes_from c.loop-k.k) c.args.maps.now) (effective_bounds d) d ∷ []) c.loop-k.invariant
    ∙ sym (opened_dims-step c.args.dims.now c.loop-k.k d c.args.maps.now c.loop-k-test.true c.index-dims-k.is)
