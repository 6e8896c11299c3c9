use Rattle.std.proofs.Common.{◌<◌, ◌∙◌, List, ap, sym, subst, length, slice_set}
use Rattle.std.proofs.lemmas.List.Edits.{map_over_more}
use Rattle.index_transform.specs.Maps.{plain_map}
use Rattle.index_transform.specs.declared.map.OutMap.{OutMap}
use Rattle.index_transform.proofs.transform.plain_maps.Goals as goal

-- the map at the index is made plain
pub loop-map-preserved : goal.loop-map-preserved
loop-map-preserved c =
    let below : c.loop-map.map-index < length c.args.maps.items =
    subst (λ (xs : List OutMap). c.loop-map.map-index < length xs) c.deref_mut-map-items.ensures.value c.loop-map-test.true in
    let plain = c.plain.ensures.value ∙ ap plain_map (c.replace-taken.ensures.value ∙ sym c.map-item.is) in
    ap (λ (m : OutMap). slice_set c.loop-map.map-items c.loop-map.map-index m) plain
    ∙ map_over_more plain_map c.args.maps.items c.loop-map.map-items c.loop-map.map-index c.map-item.result below c.loop-map.invariant c.map-item.is
