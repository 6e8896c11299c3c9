use Rattle.std.proofs.Common.{◌≡◌, ◌++◌}
use Rattle.transactions.specs.Preparing.{AreWritesFor}
use Rattle.transactions.proofs.preparing.write_all.Given as goal

-- the writes so far, and what is left
abbrev pub invariant-loop-a : goal.invariant-loop-a
invariant-loop-a g l = record {
  writes : AreWritesFor l.yielded l.writes.items;
  rest : l.fn.asked.items ≡ l.yielded ++ l.a-iterator.rest.items;
}
