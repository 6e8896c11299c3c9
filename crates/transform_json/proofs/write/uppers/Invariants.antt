use Rattle.std.proofs.Common.{◌≡◌, map, take}
use Rattle.std.specs.List.{AllByRecursion}
use Rattle.serde_json.specs.View.{view}
use Rattle.index_intervals.specs.Bounds.{AreBounds}
use Rattle.transform_json.specs.Written.{upper_data}
use Rattle.transform_json.proofs.write.uppers.Given as goal

abbrev pub invariant-loop-dim : goal.invariant-loop-dim
invariant-loop-dim l = (map view l.items.items ≡ map upper_data (take l.dim-index l.dims)) × AllByRecursion AreBounds (take l.dim-index l.dims)
