use Rattle.std.proofs.Common.{◌≡◌, map, take}
use Rattle.layer_join.specs.Placed.{placed_map}
use Rattle.layer_join.proofs.placing.placed_maps.Given as goal

abbrev pub invariant-loop-map : goal.invariant-loop-map
invariant-loop-map l = l.all.items ≡ map (placed_map l.axis) (take l.map-index l.maps)
