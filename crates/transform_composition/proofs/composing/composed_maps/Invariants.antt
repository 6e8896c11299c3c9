use Rattle.std.proofs.Common.{◌≡◌, map, take}
use Rattle.transform_composition.specs.Composing.{composed_map}
use Rattle.transform_composition.proofs.composing.composed_maps.Given as goal

abbrev pub invariant-loop-map : goal.invariant-loop-map
invariant-loop-map l = l.made.items ≡ map (composed_map l.outers l.dims l.inners) (take l.map-index l.maps)
