use Rattle.std.proofs.Common.{◌≡◌, ◌++◌}
use Rattle.chunk_plans.proofs.AskLaws.{AreAskedSo}
use Rattle.chunk_plans.proofs.asking.ask_all.Given as goal

-- what was told of the parts so far, and the parts that are left
abbrev pub invariant-loop-part : goal.invariant-loop-part
invariant-loop-part g l =
    let seen = g.K.KvStore.seen in
    record {
      so : AreAskedSo (seen l.initial.state.store) (seen l.state.store) l.initial.state.log l.state.log l.yielded l.asked.items;
      store : l.state.store ≡ l.initial.state.store;
      rest : l.fn.parts.items ≡ l.yielded ++ l.part-iterator.rest.items;
    }
