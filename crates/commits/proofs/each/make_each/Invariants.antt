use Rattle.std.proofs.Common.{◌≡◌, ◌≤◌, ◌+◌, ℕ, List, length}
use Rattle.std.specs.Prelude.{filter, vec_len, vec_capacity}
use Rattle.history.specs.Commit.{is_write}
use Rattle.history.specs.History.{History}
use Rattle.chunk_plans.specs.Seen.{IsFrame}
use Rattle.commits.specs.Plans.{keys_of}
use Rattle.commits.specs.Keyed.{AreKeyPlans, each_event, plan_arrays}
use Rattle.commits.specs.Planning.{IsAmongOn}
use Rattle.commits.proofs.DoneLaws.{IsDoneSoFar, KeepsSoFar}
use Rattle.commits.proofs.each.make_each.Given as goal

-- the events so far are the first of all, and those of the plans that are left are the others
abbrev pub invariant-loop-plan : goal.invariant-loop-plan
invariant-loop-plan g l =
    let seen = g.K.KvStore.seen in
    record {
      done : IsDoneSoFar l.fn.state.log.events l.state.log.events (each_event l.owner l.line l.mode l.fn.by.ops (keys_of l.fn.plans.items)) (each_event l.owner l.line l.mode l.ops (keys_of l.plan-iterator.rest.items)) l.numbers.items;
      plans : AreKeyPlans l.state.log.events l.plan-iterator.rest.items;
      frame : IsFrame (seen l.fn.state.store) (seen l.state.store);
      steady : (seen l.state.store).faults ≤ (seen l.fn.state.store).faults;
      kept : KeepsSoFar (seen l.fn.state.store) l.fn.state.log l.owner l.line l.mode l.fn.by.ops l.fn.plans.items (seen l.state.store) l.state.log l.ops l.plan-iterator.rest.items;
      among : (h : History) (mount : List ℕ) → IsAmongOn h (plan_arrays l.plan-iterator.rest.items) mount → IsAmongOn h (plan_arrays l.fn.plans.items) mount;
      writes : l.fn.by.writes ≡ filter is_write l.ops;
      room : vec_len l.numbers + length l.plan-iterator.rest.items ≤ vec_capacity l.numbers;
    }
