use Rattle.std.proofs.Common.{◌≡◌, ◌≤◌, ◌++◌, Some, length, List, ℕ}
use Rattle.kv_face.specs.Streams.{WhereTold}
use Rattle.kv_face.proofs.streams.write_all.Given as goal

abbrev pub invariant-loop-rest : goal.invariant-loop-rest
invariant-loop-rest g l = record {
  told : WhereTold (g.O.Sink.content l.fn.sink) (λ bytes. (front : List ℕ) × (g.O.Sink.content l.sink ≡ Some (bytes ++ front)) × (front ++ l.rest ≡ l.fn.text));
  later : g.O.Sink.faults l.fn.sink ≤ g.O.Sink.faults l.sink;
}

abbrev pub decreases-loop-rest : goal.decreases-loop-rest
decreases-loop-rest g l = length l.rest
