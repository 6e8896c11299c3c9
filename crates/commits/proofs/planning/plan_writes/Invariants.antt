use Rattle.std.proofs.Common.{◌≡◌, ◌≤◌, ◌+◌, ◌*◌, ◌++◌, ℕ, List, length}
use Rattle.std.specs.Prelude.{vec_len, vec_capacity}
use Rattle.std.specs.List.{AllByRecursion}
use Rattle.chunk_forms.specs.declared.form.Damage.{Damage}
use Rattle.chunk_plans.specs.Seen.{IsRead}
use Rattle.chunk_plans.specs.Agreement.{KeepsAgreement}
use Rattle.chunk_plans.specs.declared.plan.Planned.{Planned}
use Rattle.chunk_plans.specs.Writes.{IsSameButCache, IsWrite}
use Rattle.commits.specs.Planning.{ArePlannedBy, IsAmongOn, IsFirstDamaged, write_arrays}
use Rattle.commits.proofs.planning.plan_writes.Given as goal

-- plans of the writes that are left make plans of all, and the first of them that is damaged is the first of all
abbrev pub invariant-loop-write : goal.invariant-loop-write
invariant-loop-write g l =
    let seen = g.K.KvStore.seen in
    record {
      plans : (more : List Planned) → ArePlannedBy (seen l.fn.state.store) l.fn.state.log l.next l.step l.write-iterator.rest.items more → ArePlannedBy (seen l.fn.state.store) l.fn.state.log l.fn.number l.step l.fn.writes.items (l.plans.items ++ more);
      damaged : (key : List ℕ) (cause : Damage) → IsFirstDamaged (seen l.fn.state.store) l.fn.state.log l.next l.step l.write-iterator.rest.items key cause → IsFirstDamaged (seen l.fn.state.store) l.fn.state.log l.fn.number l.step l.fn.writes.items key cause;
      among : (mount : List ℕ) → IsAmongOn l.fn.state.log.events (write_arrays l.write-iterator.rest.items) mount → IsAmongOn l.fn.state.log.events (write_arrays l.fn.writes.items) mount;
      same : IsSameButCache l.fn.state.log l.state.log;
      read : IsRead (seen l.fn.state.store) (seen l.state.store);
      steady : (seen l.state.store).faults ≤ (seen l.fn.state.store).faults;
      kept : KeepsAgreement (seen l.fn.state.store) l.fn.state.log (seen l.state.store) l.state.log;
      writes : AllByRecursion (IsWrite l.fn.state.log.events) l.write-iterator.rest.items;
      number : l.next + l.step * length l.write-iterator.rest.items ≡ l.fn.number + l.step * length l.fn.writes.items;
      room : vec_len l.plans + length l.write-iterator.rest.items ≤ vec_capacity l.plans;
    }
