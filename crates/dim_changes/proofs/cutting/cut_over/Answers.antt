use Rattle.std.proofs.Common.{◌∙◌, sym, ap, subst}
use Rattle.transform_composition.specs.declared.Domain.{Domain}
use Rattle.transform_composition.specs.Transforms.{KeepsRules}
use Rattle.dim_changes.proofs.CutViews.{emptied_view-made, IsTransform-cut}
use Rattle.dim_changes.proofs.RangeLaws.{AreBounds-each}
use Rattle.dim_changes.proofs.CutOver.{composed-emptied, fault-refilled}
use Rattle.dim_changes.proofs.cutting.cut_over.Goals as goal

pub agreeing-requires : goal.agreeing-requires
agreeing-requires c =
    let olds = c.items.ensures ∙ ap (λ (d : Domain). d.dims) c.domain.ensures.value in
    let made = emptied_view-made c.args.u.now c.args.selected.now c.args.act.now c.in_ok-domain.domain c.items.result.now c.in_ok-maps.maps.items olds c.in_ok-domain.ensures c.in_ok-maps.ensures in
    subst KeepsRules (sym made) (IsTransform-cut c.args.act.now c.args.u.now c.args.selected.now c.domain.ensures.well_formed (AreBounds-each c.args.u.now.domain.dims c.domain.ensures.well_formed.bounds) c.requires)

pub with_refilled-requires-clause-composed : goal.with_refilled-requires-clause-composed
with_refilled-requires-clause-composed c =
    let olds = c.items.ensures ∙ ap (λ (d : Domain). d.dims) c.domain.ensures.value in
    let made = emptied_view-made c.args.u.now c.args.selected.now c.args.act.now c.in_ok-domain.domain c.items.result.now c.in_ok-maps.maps.items olds c.in_ok-domain.ensures c.in_ok-maps.ensures in
    composed-emptied c.args.act.now c.args.u.now c.args.selected.now _ c.in-Ok.t c.domain.ensures.well_formed c.requires made c.in-Ok.ensures.given c.in-Ok.ensures.agrees

pub returns-in-Err : goal.returns-in-Err
returns-in-Err c =
    let olds = c.items.ensures ∙ ap (λ (d : Domain). d.dims) c.domain.ensures.value in
    let made = emptied_view-made c.args.u.now c.args.selected.now c.args.act.now c.in_ok-domain.domain c.items.result.now c.in_ok-maps.maps.items olds c.in_ok-domain.ensures c.in_ok-maps.ensures in
    fault-refilled c.args.act.now c.args.u.now c.args.selected.now _ c.in-Err.e c.domain.ensures.well_formed c.requires made c.in-Err.ensures.given
