use Rattle.std.proofs.Common.{◌≡◌, ◌≤◌}
use Rattle.kv_face.specs.Store.{keys_of}
use Rattle.chunk_plans.specs.Writes.{IsSameButCache}
use Rattle.chunk_plans.specs.Agreement.{KeepsAgreement}
use Rattle.chunk_plans.specs.Seen.{IsRead}
use Rattle.state_resizes.specs.Cuts.{AreFilled, bytes_at}
use Rattle.state_resizes.proofs.filling.filled.Given as goal

-- the first chunks are filled in, and nothing but the cache has changed
abbrev pub invariant-loop-place : goal.invariant-loop-place
invariant-loop-place g l =
    let seen = g.K.KvStore.seen in record {
      new : l.asked.plan ≡ l.fn.asked.plan;
      keys : keys_of l.asked.changes.items ≡ keys_of l.fn.asked.changes.items;
      metadata : bytes_at l.asked.changes.items 0 ≡ bytes_at l.fn.asked.changes.items 0;
      filled : AreFilled (seen l.initial.state.store) l.initial.state.log l.fn.asked.plan.array l.fn.asked.plan.shape l.chunks l.asked.changes.items l.place;
      same : IsSameButCache l.initial.state.log l.state.log;
      read : IsRead (seen l.initial.state.store) (seen l.state.store);
      steady : (seen l.state.store).faults ≤ (seen l.initial.state.store).faults;
      kept : KeepsAgreement (seen l.initial.state.store) l.initial.state.log (seen l.state.store) l.state.log;
    }
