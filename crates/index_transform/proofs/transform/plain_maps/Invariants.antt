use Rattle.std.proofs.Common.{◌≡◌, ◌++◌, map, take, drop}
use Rattle.index_transform.specs.Maps.{plain_map}
use Rattle.index_transform.proofs.transform.plain_maps.Given as goal

abbrev pub invariant-loop-map : goal.invariant-loop-map
invariant-loop-map l = l.map-items ≡ map plain_map (take l.map-index l.fn.maps.items) ++ drop l.map-index l.fn.maps.items
