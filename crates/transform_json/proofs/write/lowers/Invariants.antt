use Rattle.std.proofs.Common.{◌≡◌, map, take}
use Rattle.serde_json.specs.View.{view}
use Rattle.transform_json.specs.Written.{lower_data}
use Rattle.transform_json.proofs.write.lowers.Given as goal

abbrev pub invariant-loop-dim : goal.invariant-loop-dim
invariant-loop-dim l = map view l.items.items ≡ map lower_data (take l.dim-index l.dims)
