use Rattle.std.proofs.Common.{◌≡◌, drop, map}
use Rattle.read_fits.specs.Openings.{first_path, node_of}
use Rattle.open_fits.proofs.nodes.+finding.Given as goal

-- the layers so far have no such node
abbrev pub invariant-first_node-loop-layer : goal.invariant-first_node-loop-layer
invariant-first_node-loop-layer l = first_path (map (node_of l.number) l.layers) ≡ first_path (map (node_of l.number) (drop l.layer-index l.layers))
