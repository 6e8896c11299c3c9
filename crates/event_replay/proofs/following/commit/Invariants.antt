use Rattle.std.proofs.Common.{[], take, drop}
use Rattle.std.specs.Prelude.{◌↔◌}
use Rattle.std.specs.FinMap as finmap
use Rattle.std.specs.List.{AllByRecursion}
use Rattle.history.specs.Content.{world_after}
use Rattle.history.specs.History.{History}
use Rattle.history.specs.Legal.{AreReads, IsLegalOp}
use Rattle.event_replay.specs.Replays.{IsBehind}
use Rattle.event_replay.specs.Sweeps.{IsNextDone}
use Rattle.event_replay.proofs.following.commit.Given as goal

-- the operations so far may follow, what is kept is behind them, and the Reads are right where those that are left are
abbrev pub invariant-loop-i : goal.invariant-loop-i
invariant-loop-i l = (events before : History) → IsNextDone events before l.opened l.number l.ops l.initial.store
    → AllByRecursion (IsLegalOp before) (take l.i l.ops) × IsBehind before l.number (take l.i l.ops) l.store
    × (AreReads (world_after finmap.empty before) [] l.ops ↔ AreReads (world_after finmap.empty before) (take l.i l.ops) (drop l.i l.ops))
