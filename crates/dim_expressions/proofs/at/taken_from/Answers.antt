use Rattle.std.proofs.Common.{◌∙◌, [], length, sym, ap, subst, arith}
use Rattle.index_transform.specs.declared.domain.Domain.{Domain}
use Rattle.index_transform.specs.Transforms.{KeepsRules}
use Rattle.dim_changes.proofs.Laws.{AreBounds-each, gives-over, others_few, others_known}
use Rattle.dim_expressions.specs.At.{at_map, at_view}
use Rattle.dim_expressions.proofs.WithoutLaws.{rank_few, without-made}
use Rattle.dim_expressions.proofs.AtLaws.{IsTransform-at, tight-at}
use Rattle.dim_expressions.proofs.at.taken_from.Goals as goal

pub left_domain-requires : goal.left_domain-requires
left_domain-requires c = others_known c.args.selected.now (length c.args.u.now.domain.dims) (length c.args.u.now.domain.dims) c.args.rest.now (omega arith) c.requires.rest

pub at_maps-requires-clause-few : goal.at_maps-requires-clause-few
at_maps-requires-clause-few c =
    let few = rank_few c.args.u.now c.domain.ensures.well_formed in
    let l = others_few c.args.selected.now (length c.args.u.now.domain.dims) (length c.args.u.now.domain.dims) c.args.rest.now (omega arith) c.requires.rest in
    omega (arith, few, l)

pub stepped-requires : goal.stepped-requires
stepped-requires c =
    let olds = c.items.ensures ∙ ap (λ (d : Domain). d.dims) c.domain.ensures.value in
    let made = without-made c.args.u.now c.args.selected.now c.args.rest.now [] (at_map c.args.by.now) c.in_ok-domain.domain c.items.result.now c.in_ok-maps.maps.items
    c.requires.rest olds c.in_ok-domain.ensures c.in_ok-maps.ensures in
    subst KeepsRules (sym made) (IsTransform-at c.args.u.now c.args.selected.now c.args.by.now c.domain.ensures.well_formed (AreBounds-each c.args.u.now.domain.dims c.domain.ensures.well_formed.bounds) c.requires.good)

pub returns : goal.returns
returns c =
    let olds = c.items.ensures ∙ ap (λ (d : Domain). d.dims) c.domain.ensures.value in
    let made = without-made c.args.u.now c.args.selected.now c.args.rest.now [] (at_map c.args.by.now) c.in_ok-domain.domain c.items.result.now c.in_ok-maps.maps.items
    c.requires.rest olds c.in_ok-domain.ensures c.in_ok-maps.ensures in
    gives-over c.args.u.now _ (at_view c.args.u.now c.args.selected.now c.args.by.now) c.stepped.result made
    (tight-at c.args.u.now c.args.selected.now c.args.by.now c.domain.ensures.well_formed (AreBounds-each c.args.u.now.domain.dims c.domain.ensures.well_formed.bounds) c.requires.good) c.stepped.ensures
