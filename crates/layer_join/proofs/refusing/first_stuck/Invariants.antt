use Rattle.layer_join.proofs.Steps.{Searched}
use Rattle.layer_join.proofs.refusing.first_stuck.Given as goal

abbrev pub invariant-loop-k : goal.invariant-loop-k
invariant-loop-k l = Searched l.axis l.layers l.next l.k
