use Rattle.std.proofs.Common.{◌∙◌, sym, ap, subst}
use Rattle.index_transform.specs.Identity.{identity_over}
use Rattle.stack_driver.specs.Conditions.{IsView}
use Rattle.stack_driver.specs.declared.view.View.TheVariants as view
use Rattle.layer_join.specs.Joins.{IsJoined, joined_domain}
use Rattle.layer_join.specs.Joins as joins
use Rattle.layer_join.specs.Placed.{placed_from}
use Rattle.layer_join.proofs.Joinings.{if_ok, can_stack, beside, beside_view}
use Rattle.layer_join.proofs.joining.beside.Goals as goal

pub returns-clause-joined : goal.returns-clause-joined
returns-clause-joined c =
    let b = beside c.args.axis c.args.layers.items c.requires.some c.requires.few (can_stack c.args.axis c.args.layers.items c.requires.able) in
    if_ok _ _ (λ v e. subst (IsJoined (joins.stack c.args.axis) c.args.layers.items) (sym (e ∙ ap (view.Stack (placed_from 0 c.args.axis c.args.layers.items)) (c.in_ok-transform.ensures ∙ ap identity_over (c.in_ok-domain.ensures.value ∙ ap (joined_domain (joins.stack c.args.axis)) c.deref.ensures.value)))) b) c.placed_over.result c.placed_over.ensures

pub returns-clause-view : goal.returns-clause-view
returns-clause-view c =
    let b = beside_view c.args.axis c.args.layers.items c.requires.some c.requires.few (can_stack c.args.axis c.args.layers.items c.requires.able) c.requires.views in
    if_ok _ _ (λ v e. subst IsView (sym (e ∙ ap (view.Stack (placed_from 0 c.args.axis c.args.layers.items)) (c.in_ok-transform.ensures ∙ ap identity_over (c.in_ok-domain.ensures.value ∙ ap (joined_domain (joins.stack c.args.axis)) c.deref.ensures.value)))) b) c.placed_over.result c.placed_over.ensures
