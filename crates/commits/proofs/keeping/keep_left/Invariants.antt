use Rattle.std.proofs.Common.{◌≡◌}
use Rattle.std.specs.List.{AllByRecursion}
use Rattle.chunk_plans.specs.Agreement.{Opening, Agrees}
use Rattle.chunk_plans.specs.Writes.{IsSameButCache}
use Rattle.commits.specs.Keeping.{IsChunkLeft, MayKeep}
use Rattle.commits.proofs.keeping.keep_left.Given as goal

-- the cells so far were kept, and those that are left may be
abbrev pub invariant-loop-one : goal.invariant-loop-one
invariant-loop-one g l =
    let seen = g.K.KvStore.seen in
    record {
      same : IsSameButCache l.fn.state.log l.state.log;
      store : l.state.store ≡ l.fn.state.store;
      chunks : AllByRecursion (IsChunkLeft l.fn.state.log.events) l.one-iterator.rest.items;
      kept : (opening : Opening) → Agrees opening (seen l.fn.state.store) l.fn.state.log → AllByRecursion (MayKeep opening l.fn.state.log l.number) l.fn.left.items
          → Agrees opening (seen l.state.store) l.state.log × AllByRecursion (MayKeep opening l.fn.state.log l.number) l.one-iterator.rest.items;
    }
