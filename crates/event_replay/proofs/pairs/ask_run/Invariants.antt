use Rattle.std.proofs.Common.{◌≡◌, ◌++◌, map, take}
use Rattle.cells.specs.Runs.{pairs_of}
use Rattle.event_replay.specs.Placed.{asked_cell}
use Rattle.event_replay.proofs.pairs.ask_run.Given as goal

-- the pairs so far
abbrev pub invariant-loop-k : goal.invariant-loop-k
invariant-loop-k l = l.asked.items ≡ l.initial.asked.items ++ map (asked_cell l.leaves l.words) (take l.k (pairs_of l.run))
