use Rattle.layer_join.proofs.Steps.{Moving}
use Rattle.layer_join.proofs.sliding.move_layers.Given as goal

abbrev pub invariant-loop-k : goal.invariant-loop-k
invariant-loop-k l = Moving l.axis l.fn.layers l.layers l.next l.k
