use Rattle.transaction_cases.specs.Seats.{IsSeatThen}
use Rattle.transaction_cases.proofs.runs.answers.Given as goal

abbrev pub invariant-loop-call : goal.invariant-loop-call
invariant-loop-call g l = record {
  one : IsSeatThen l.book l.initial.one.pass l.one.pass l.one.arrays.items l.one.txn;
  other : IsSeatThen l.book l.initial.other.pass l.other.pass l.other.arrays.items l.other.txn;
}
