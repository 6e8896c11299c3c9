use Rattle.std.proofs.Common.{◌≡◌, ◌++◌, take, drop}
use Rattle.layer_join.specs.Placed.{placed_from}
use Rattle.layer_join.proofs.placing.place_layers.Given as goal

abbrev pub invariant-loop-k : goal.invariant-loop-k
invariant-loop-k l = l.layers ≡ take l.k (placed_from 0 l.axis l.fn.layers) ++ drop l.k l.fn.layers
