use Rattle.std.proofs.Common.{◌≡◌, map, take}
use Rattle.std.specs.List.{AllByRecursion}
use Rattle.serde_json.specs.View.{view}
use Rattle.transform_json.specs.Written.{map_data, HasWords, HasFewLists}
use Rattle.transform_json.proofs.write.outputs.Given as goal

abbrev pub invariant-loop-one : goal.invariant-loop-one
invariant-loop-one l = (map view l.items.items ≡ map map_data (take l.one-index l.maps)) × AllByRecursion HasWords (take l.one-index l.maps) × AllByRecursion HasFewLists (take l.one-index l.maps)
