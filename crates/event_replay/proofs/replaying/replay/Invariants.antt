use Rattle.std.proofs.Common.{[], take, drop}
use Rattle.std.specs.Prelude.{◌↔◌}
use Rattle.std.specs.FinMap as finmap
use Rattle.std.specs.List.{AllByRecursion}
use Rattle.history.specs.Content.{world_after}
use Rattle.history.specs.History.{History}
use Rattle.history.specs.Legal.{AreReads}
use Rattle.event_replay.specs.Replays.{MayFollow, IsBehind}
use Rattle.event_replay.proofs.replaying.replay.Given as goal

-- what is kept is behind the operations so far, and the Reads are right where those that are left are
abbrev pub invariant-loop-i : goal.invariant-loop-i
invariant-loop-i l = (h : History) → IsBehind h l.number [] l.initial.store → AllByRecursion (MayFollow h) l.ops
    → IsBehind h l.number (take l.i l.ops) l.store × (AreReads (world_after finmap.empty h) [] l.ops ↔ AreReads (world_after finmap.empty h) (take l.i l.ops) (drop l.i l.ops))
