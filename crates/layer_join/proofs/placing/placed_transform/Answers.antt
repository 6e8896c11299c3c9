use Rattle.std.proofs.Common.{◌≡◌, ◌∙◌, sym, ap, subst, arith, pos, List, map}
use Rattle.std.proofs.lemmas.Int.{ints}
use Rattle.index_intervals.specs.Bounds.{Bounds, are_bounds}
use Rattle.index_intervals.proofs.Laws.{are_bounds-true}
use Rattle.index_transform.specs.Transforms.{IsTransform}
use Rattle.index_transform.specs.declared.domain.Domain.{Domain}
use Rattle.index_transform.specs.declared.map.OutMap.{OutMap}
use Rattle.layer_join.specs.Placed.{from_on, placed_map, placed_transform, with_axis}
use Rattle.layer_join.proofs.Placings.{IsTransform-placed}
use Rattle.layer_join.proofs.placing.placed_transform.Goals as goal

pub of-requires : goal.of-requires
of-requires c =
    let t = c.args.t.now in
    let w = c.domain.ensures.well_formed in
    let small = c.requires.small in
    let b : are_bounds (from_on (pos c.args.at) 1) ≡ _ =
    are_bounds-true (from_on (pos c.args.at) 1) (record { lo_from = omega (arith, ints); lo_below = omega (arith, ints, small); hi_above = omega (arith, ints); hi_to = omega (arith, ints, small); ordered = omega (arith, ints) }) in
    let d : c.in_ok-domain.domain ≡ (placed_transform c.args.axis c.args.at t).domain =
    c.in_ok-domain.ensures ∙ ap (with_axis c.args.axis c.from_on.result) c.domain.ensures.value ∙ ap (λ (b : Bounds). with_axis c.args.axis b t.domain) c.from_on.ensures in
    let m : c.in_ok-placed_maps.field-0.items ≡ (placed_transform c.args.axis c.args.at t).maps = c.in_ok-placed_maps.ensures ∙ ap (map (placed_map c.args.axis)) c.maps.ensures.value in
    let made : placed_transform c.args.axis c.args.at t ≡ record { domain = c.in_ok-domain.domain; maps = c.in_ok-placed_maps.field-0.items } =
    ap (λ (k : Domain). record { domain = k; maps = (placed_transform c.args.axis c.args.at t).maps }) (sym d) ∙ ap (λ (ms : List OutMap). record { domain = c.in_ok-domain.domain; maps = ms }) (sym m) in
    subst IsTransform made (IsTransform-placed c.args.axis c.args.at t c.requires.axis c.requires.rank b w)
