use Rattle.std.proofs.Common.{◌≡◌, ◌++◌, map, take}
use Rattle.std.specs.List.{AllByRecursion}
use Rattle.stack_targets.specs.Landings.{all_leaves, ground_of}
use Rattle.transaction_cells.specs.Lanes.{HasGrid, lane_of}
use Rattle.transaction_cells.proofs.lanes.+put_lanes.Given as goal

-- the lanes of the layers so far
abbrev pub invariant-put_layers-loop-layer : goal.invariant-put_layers-loop-layer
invariant-put_layers-loop-layer l = record {
  lanes : l.lanes.items ≡ l.fn.lanes.items ++ map lane_of (all_leaves (map ground_of (take l.layer-index l.layers)));
  ranks : AllByRecursion HasGrid (all_leaves (map ground_of (take l.layer-index l.layers)));
}
