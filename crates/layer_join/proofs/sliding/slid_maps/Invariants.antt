use Rattle.std.proofs.Common.{◌≡◌, map, take}
use Rattle.layer_join.specs.Slid.{slid_map}
use Rattle.layer_join.proofs.sliding.slid_maps.Given as goal

abbrev pub invariant-loop-map : goal.invariant-loop-map
invariant-loop-map l = l.moved.items ≡ map (slid_map l.axis l.by) (take l.map-index l.maps)
