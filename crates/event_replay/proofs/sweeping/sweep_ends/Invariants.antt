use Rattle.std.proofs.Common.{◌≡◌, ◌≤◌, take}
use Rattle.std.specs.Prelude.{◌↔◌, count_by, IsTrue}
use Rattle.std.specs.FinMap as finmap
use Rattle.history.specs.Legal.{IsLegal, is_opening}
use Rattle.version_store.specs.Stores.{IsStoreOf}
use Rattle.event_replay.specs.Sweeps.{AreMetBefore}
use Rattle.event_replay.proofs.sweeping.sweep_ends.Given as goal

-- the events so far may have happened, they are kept, and it is told whether the windows that ended are met
abbrev pub invariant-loop-n : goal.invariant-loop-n
invariant-loop-n l = record {
  legal : IsLegal finmap.empty (take l.n l.events);
  kept : IsStoreOf (take l.n l.events) l.store;
  count : l.opened ≡ count_by is_opening (take l.n l.events);
  few : l.opened ≤ l.n;
  tells : IsTrue l.met ↔ AreMetBefore l.events l.waiting l.n;
}
