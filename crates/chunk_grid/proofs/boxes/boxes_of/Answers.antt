use Rattle.std.proofs.Common.{◌≡◌, ◌∙◌, [], List, length, sym, ap, subst}
use Rattle.std.specs.List.{AllByRecursion}
use Rattle.index_intervals.specs.Bounds.{Bounds}
use Rattle.index_transform.specs.declared.domain.Domain.{Domain}
use Rattle.index_transform.specs.declared.map.OutMap.{OutMap}
use Rattle.index_transform.specs.Values.{map_value}
use Rattle.index_transform.specs.Walks.{IsCell}
use Rattle.chunk_grid.specs.BoxSteps.{IsPlaceAlong}
use Rattle.chunk_grid.proofs.BoxLaws.{maps-in_shape, places-along}
use Rattle.chunk_grid.proofs.boxes.boxes_of.Goals as goal

pub boxes_along-requires-clause-same : goal.boxes_along-requires-clause-same
boxes_along-requires-clause-same c =
    let t = c.args.t.now in
    ap length c.chunk.ensures.value ∙ c.chunk.ensures.well_formed.same
    ∙ sym (maps-in_shape t.domain.dims c.args.grid.now.shape t.maps c.requires.some c.requires.inside)
    ∙ ap length (sym c.maps.ensures.value)

pub boxes_along-requires-clause-values : goal.boxes_along-requires-clause-values
boxes_along-requires-clause-values c = λ cell is.
    let t = c.args.t.now in
    let dims : c.items.result.now ≡ t.domain.dims = c.items.ensures ∙ ap (λ (d : Domain). d.dims) c.domain.ensures.value in
    let here = subst (λ (ds : List Bounds). IsCell ds cell) dims is in
    subst (λ (ms : List OutMap). AllByRecursion (λ m. IsPlaceAlong (map_value [] cell m)) ms) (sym c.maps.ensures.value)
    (places-along t.domain.dims c.args.grid.now.shape t.maps c.chunk.ensures.well_formed.finite c.requires.regular c.requires.inside cell here)
