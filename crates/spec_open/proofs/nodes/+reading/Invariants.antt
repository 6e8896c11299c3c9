use Rattle.std.proofs.Common.{◌≡◌, ◌+◌, ◌*◌, map, drop, []}
use Rattle.serde_json.specs.View.{view}
use Rattle.spec_open.specs.Nodes.{layers_behind}
use Rattle.spec_open.specs.Specs.{spec_at}
use Rattle.spec_open.proofs.nodes.+reading.Given as goal

abbrev pub decreases-read_node : goal.decreases-read_node
decreases-read_node l = 8 * l.room + 7

abbrev pub decreases-node_by : goal.decreases-node_by
decreases-node_by l = 8 * l.room + 6

abbrev pub decreases-cast_in : goal.decreases-cast_in
decreases-cast_in l = 8 * l.room + 12

abbrev pub decreases-base_in_turn : goal.decreases-base_in_turn
decreases-base_in_turn l = 8 * l.room + 11

abbrev pub decreases-stack_in : goal.decreases-stack_in
decreases-stack_in l = 8 * l.room + 12

abbrev pub decreases-layers_in_turn : goal.decreases-layers_in_turn
decreases-layers_in_turn l = 8 * l.room + 11

abbrev pub decreases-layers_of : goal.decreases-layers_of
decreases-layers_of l = 8 * l.room + 10

abbrev pub decreases-layer_at : goal.decreases-layer_at
decreases-layer_at l = 8 * l.room + 9

abbrev pub invariant-layers_of-loop-item : goal.invariant-layers_of-loop-item
invariant-layers_of-loop-item l =
    layers_behind (spec_at l.names l.room) l.path [] l.initial.leaves.items (map view l.items)
    ≡ layers_behind (spec_at l.names l.room) l.path l.trees.items l.leaves.items (map view (drop l.item-index l.items))
