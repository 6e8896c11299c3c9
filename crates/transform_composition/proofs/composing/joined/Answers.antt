use Rattle.std.proofs.Common.{◌∙◌, List, ap, map}
use Rattle.index_transform.specs.Bounds.{Bounds}
use Rattle.index_transform.specs.declared.domain.Domain.{Domain}
use Rattle.index_transform.specs.declared.map.OutMap.{OutMap}
use Rattle.transform_composition.specs.Composing.{composed_map, closed_dims}
use Rattle.transform_composition.proofs.JoinLemmas.{IsTransform-made}
use Rattle.transform_composition.proofs.composing.joined.Goals as goal

pub of-requires : goal.of-requires
of-requires c =
    let outers = c.items.ensures ∙ ap (λ (d : Domain). d.dims) c.domain.ensures.value in
    let maps = c.in_ok-maps.ensures
    ∙ ap (λ (os : List Bounds). map (composed_map os c.deref.result.now c.maps.result.now) c.maps-2.result.now) outers
    ∙ ap (λ (ds : List Bounds). map (composed_map c.args.outer.now.domain.dims ds c.maps.result.now) c.maps-2.result.now) c.deref.ensures.value
    ∙ ap (λ (gs : List OutMap). map (composed_map c.args.outer.now.domain.dims c.args.dims.items gs) c.maps-2.result.now) c.maps.ensures.value
    ∙ ap (λ (ms : List OutMap). map (composed_map c.args.outer.now.domain.dims c.args.dims.items c.args.inner.now.maps) ms) c.maps-2.ensures.value in
    let dims = c.wrap.ensures ∙ c.closed_dims.ensures ∙ ap (λ (ms : List OutMap). closed_dims 0 c.args.dims.items ms) c.deref-2.ensures.value in
    let labels = c.wrap-2.ensures ∙ c.in_ok-labels.ensures ∙ c.items-2.ensures ∙ ap (λ (d : Domain). d.labels) c.domain-2.ensures.value in
    IsTransform-made c.args.outer.now c.args.inner.now c.args.dims.items c.wrap.result c.wrap-2.result c.in_ok-maps.maps.items
    c.domain.ensures.well_formed c.domain-2.ensures.well_formed
    (record { rank = c.requires.rank; fit = c.requires.fit; inside = c.requires.inside; bounds = c.requires.bounds })
    c.requires.same c.requires.small maps dims labels
