use Rattle.std.proofs.Common.{◌<◌, ◌≤◌}
use Rattle.layer_join.specs.Refusals.{rank_of}
use Rattle.layer_join.proofs.Joinings.{can_stack, alike_layers, all_ranks}
use Rattle.layer_join.proofs.joining.placed_over.Goals as goal

pub placed_layers-requires-clause-axes : goal.placed_layers-requires-clause-axes
placed_layers-requires-clause-axes c =
    let layers = c.args.layers.items in
    let can = can_stack c.args.axis layers c.requires.able in
    let node = alike_layers layers c.requires.some c.requires.few can.alike in
    all_ranks (λ n. (c.args.axis ≤ n) × (n < 32)) node.dtype (rank_of layers) layers node.alike (can.has, can.small)
