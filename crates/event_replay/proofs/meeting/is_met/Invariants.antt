use Rattle.std.proofs.Common.{◌≤◌, length, take}
use Rattle.std.specs.List.{AllByRecursion}
use Rattle.history.specs.History.{History}
use Rattle.version_store.specs.Stores.{IsStoreOf}
use Rattle.event_replay.specs.Demands.{IsDemandIn, IsMetFrom}
use Rattle.event_replay.proofs.meeting.is_met.Given as goal

-- the pieces so far are met
abbrev pub invariant-loop-i : goal.invariant-loop-i
invariant-loop-i l = (h : History) → IsStoreOf h l.store → IsDemandIn h l.demand → l.from ≤ length h → AllByRecursion (IsMetFrom h l.from l.demand.casts.items) (take l.i l.demand.pieces.items)
