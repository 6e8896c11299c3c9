use Rattle.index_transform.proofs.Laws.{position_from-none}
use Rattle.transform_composition.specs.Composing.{passes_word, is_too_large}
use Rattle.transform_composition.proofs.composing.composed_maps.Goals as goal

pub composed_map-requires-clause-fits : goal.composed_map-requires-clause-fits
composed_map-requires-clause-fits c =
    position_from-none (passes_word c.args.inners.now) 0 c.args.maps.now c.loop-map.map-index c.map-item.result c.requires.fits c.loop-map-test.true c.map-item.is

pub composed_map-requires-clause-small : goal.composed_map-requires-clause-small
composed_map-requires-clause-small c =
    position_from-none (is_too_large c.args.dims.now c.args.inners.now) 0 c.args.maps.now c.loop-map.map-index c.map-item.result c.requires.small c.loop-map-test.true c.map-item.is
