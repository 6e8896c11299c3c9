use Rattle.std.proofs.Common.{◌≡◌, ◌∙◌, ◌<◌, true, arith, length, List, sym, ap, subst}
use Rattle.std.specs.List.{AllByRecursion, list_all}
use Rattle.index_transform.specs.Identity.{identity_over}
use Rattle.stack_driver.specs.Conditions.{IsView}
use Rattle.stack_driver.specs.Stacks.{first_unlike, stacked_domain}
use Rattle.stack_driver.specs.declared.view.View.{View}
use Rattle.stack_driver.specs.declared.view.View.TheVariants as view
use Rattle.layer_join.specs.Joins.{IsJoined, AreApart, is_ordered_along, moved_layers}
use Rattle.layer_join.specs.Joins as joins
use Rattle.layer_join.specs.Refusals.{rank_of}
use Rattle.layer_join.proofs.Apart.{apart}
use Rattle.layer_join.proofs.Joinings.{if_ok, length-moved, can_concat, alike_layers, all_ranks, moved_are, concatenated}
use Rattle.layer_join.proofs.Steps.{all_put}
use Rattle.layer_join.proofs.joining.concatenated.Goals as goal

pub moved_layers-requires-clause-axes : goal.moved_layers-requires-clause-axes
moved_layers-requires-clause-axes c =
    let layers = c.args.layers.items in
    let can = can_concat c.args.axis layers c.requires.able in
    let node = alike_layers layers c.requires.some c.requires.few can.alike in
    all_ranks (λ n. c.args.axis < n) node.dtype (rank_of layers) layers node.alike can.has

pub stacked-requires-clause-some : goal.stacked-requires-clause-some
stacked-requires-clause-some c =
    let count = ap (λ (vs : List View). length vs) c.in_ok-layers.ensures ∙ length-moved c.args.axis c.args.layers.items in
    let some = c.requires.some in
    omega (arith, count, some)

pub stacked-requires-clause-few : goal.stacked-requires-clause-few
stacked-requires-clause-few c =
    let count = ap (λ (vs : List View). length vs) c.in_ok-layers.ensures ∙ length-moved c.args.axis c.args.layers.items in
    let few = c.requires.few in
    omega (arith, count, few)

pub stacked-requires-clause-views : goal.stacked-requires-clause-views
stacked-requires-clause-views c =
    let layers = c.args.layers.items in
    let can = can_concat c.args.axis layers c.requires.able in
    subst (AllByRecursion IsView) (sym c.in_ok-layers.ensures) (moved_are c.args.axis layers c.requires.some c.requires.few can.alike c.requires.views).views

pub stacked-requires-clause-alike : goal.stacked-requires-clause-alike
stacked-requires-clause-alike c =
    let layers = c.args.layers.items in
    let can = can_concat c.args.axis layers c.requires.able in
    ap first_unlike c.in_ok-layers.ensures ∙ (moved_are c.args.axis layers c.requires.some c.requires.few can.alike c.requires.views).alike

pub returns-clause-joined : goal.returns-clause-joined
returns-clause-joined c =
    let layers = c.args.layers.items in
    let can = can_concat c.args.axis layers c.requires.able in
    let m = moved_are c.args.axis layers c.requires.some c.requires.few can.alike c.requires.views in
    if_ok _ _
    (λ v e.
    subst (IsJoined (joins.concat c.args.axis) layers)
    (sym (e ∙ ap (λ (ls : List View). view.Stack ls (identity_over (stacked_domain ls))) c.in_ok-layers.ensures)) (concatenated c.args.axis layers m can.has))
    c.stacked.result c.stacked.ensures.value

pub returns-clause-apart : goal.returns-clause-apart
returns-clause-apart c =
    let layers = c.args.layers.items in
    let can = can_concat c.args.axis layers c.requires.able in
    let node = alike_layers layers c.requires.some c.requires.few can.alike in
    let has = all_ranks (λ n. c.args.axis < n) node.dtype (rank_of layers) layers node.alike can.has in
    let ordered : list_all (is_ordered_along c.args.axis) layers ≡ true = subst (λ (vs : List View). list_all (is_ordered_along c.args.axis) vs ≡ true) c.deref.ensures.value c.look_along.ensures in
    if_ok _ _ (λ v e. apart c.args.axis layers (all_put c.args.axis layers has ordered)) c.stacked.result c.stacked.ensures.value
