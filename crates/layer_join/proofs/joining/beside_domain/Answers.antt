use Rattle.std.proofs.Common.{◌∙◌, length, sym, ap, subst, arith}
use Rattle.index_transform.specs.Transforms.{IsDomain}
use Rattle.index_transform.specs.declared.domain.Domain.{Domain}
use Rattle.layer_join.proofs.Joinings.{if_ok, can_stack, rank-domain}
use Rattle.layer_join.proofs.Placings.{IsDomain-placed}
use Rattle.layer_join.proofs.joining.beside_domain.Goals as goal

pub with_axis-requires-clause-axis : goal.with_axis-requires-clause-axis
with_axis-requires-clause-axis c =
    let layers = c.args.layers.now in
    let can = can_stack c.args.axis layers c.requires.able in
    let rank = ap (λ (d : Domain). length d.dims) c.in_ok-domain.ensures.value ∙ rank-domain layers in
    let inside = can.has in
    omega (arith, inside, rank)

pub returns-clause-rules : goal.returns-clause-rules
returns-clause-rules c =
    let layers = c.args.layers.now in
    let can = can_stack c.args.axis layers c.requires.able in
    let rank = ap (λ (d : Domain). length d.dims) c.in_ok-domain.ensures.value ∙ rank-domain layers in
    let inside = can.has in
    let small = can.small in
    if_ok _ _
    (λ d e.
    subst IsDomain (sym e)
    (IsDomain-placed c.args.axis c.from_on.result c.in_ok-domain.domain (omega (arith, inside, rank)) (omega (arith, small, rank)) c.in_ok-domain.ensures.rules))
    c.with_axis.result c.with_axis.ensures
