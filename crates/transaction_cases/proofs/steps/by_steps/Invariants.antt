use Rattle.indexmap.specs.IndexMap.{get_by_text}
use Rattle.transaction_cases.specs.Sessions.{IsBetween}
use Rattle.transaction_cases.proofs.steps.by_steps.Given as goal

abbrev pub invariant-loop-step : goal.invariant-loop-step
invariant-loop-step g l = record {
  one : IsBetween l.book 0 l.one.pass (get_by_text l.one.names) l.one.txn l.one.ended;
  other : IsBetween l.book 1 l.other.pass (get_by_text l.other.names) l.other.txn l.other.ended;
}
