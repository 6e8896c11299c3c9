use Rattle.std.proofs.Common.{◌∙◌, [], ◌∷◌, length, sym, ap, subst, arith}
use Rattle.index_transform.specs.declared.domain.Domain.{Domain}
use Rattle.index_transform.specs.Transforms.{DomainAndMaps, KeepsRules}
use Rattle.dim_changes.proofs.Laws.{AreBounds-each, gives-tightened, others_known}
use Rattle.dim_changes.specs.Causes.{or_cause, Gives}
use Rattle.transform_composition.specs.Composing.{composed}
use Rattle.dim_expressions.specs.Diagonal.{unbounded, diagonal_map, diagonal_view}
use Rattle.dim_expressions.proofs.WithoutLaws.{without-made, front-is}
use Rattle.dim_expressions.proofs.DiagonalLaws.{diagonal_built, one_fewer, IsTransform-diagonal, tight-diagonal, agrees_diagonal}
use Rattle.dim_expressions.proofs.diagonal.met_before.Goals as goal

pub front_domain-requires : goal.front_domain-requires
front_domain-requires c = others_known c.args.selected.now (length c.args.u.now.domain.dims) (length c.args.u.now.domain.dims) c.args.rest.now (omega arith) c.requires.rest

pub diagonal_maps-requires : goal.diagonal_maps-requires
diagonal_maps-requires c =
    let few = one_fewer c.args.u.now c.args.selected.now c.domain.ensures.well_formed c.requires.known c.requires.some in
    let l = ap length c.requires.rest in
    omega (arith, few, l)

pub stepped-requires : goal.stepped-requires
stepped-requires c =
    let olds = c.items.ensures ∙ ap (λ (d : Domain). d.dims) c.domain.ensures.value in
    let front = front-is c.args.u.now c.args.rest.now c.unbounded.result unbounded c.in_ok-domain.domain c.in_ok-domain.ensures c.unbounded.ensures in
    let made = without-made c.args.u.now c.args.selected.now c.args.rest.now (unbounded ∷ []) diagonal_map c.in_ok-domain.domain c.items.result.now c.in_ok-maps.maps.items
    c.requires.rest olds front c.in_ok-maps.ensures in
    subst KeepsRules (sym made) (IsTransform-diagonal c.args.u.now c.args.selected.now c.domain.ensures.well_formed (AreBounds-each c.args.u.now.domain.dims c.domain.ensures.well_formed.bounds) c.requires.known c.requires.some)

pub returns : goal.returns
returns c =
    let u = c.args.u.now in
    let olds = c.items.ensures ∙ ap (λ (d : Domain). d.dims) c.domain.ensures.value in
    let front = front-is c.args.u.now c.args.rest.now c.unbounded.result unbounded c.in_ok-domain.domain c.in_ok-domain.ensures c.unbounded.ensures in
    let made = without-made u c.args.selected.now c.args.rest.now (unbounded ∷ []) diagonal_map c.in_ok-domain.domain c.items.result.now c.in_ok-maps.maps.items
    c.requires.rest olds front c.in_ok-maps.ensures in
    gives-tightened u (diagonal_built u c.args.selected.now) (diagonal_view u c.args.selected.now) c.stepped.result
    (tight-diagonal u c.args.selected.now c.domain.ensures.well_formed (AreBounds-each c.args.u.now.domain.dims c.domain.ensures.well_formed.bounds) c.requires.known c.requires.some)
    (λ t follows. agrees_diagonal t u c.args.selected.now follows)
    (subst (λ (b : DomainAndMaps). Gives u b (or_cause (composed u b)) c.stepped.result) made c.stepped.ensures)
