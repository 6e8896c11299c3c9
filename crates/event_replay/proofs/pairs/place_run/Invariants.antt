use Rattle.std.proofs.Common.{◌≡◌, ◌++◌, map, take}
use Rattle.cells.specs.Runs.{pairs_of}
use Rattle.event_replay.specs.Placed.{placed_word}
use Rattle.event_replay.proofs.pairs.place_run.Given as goal

-- the pairs so far
abbrev pub invariant-loop-k : goal.invariant-loop-k
invariant-loop-k l = l.placed.items ≡ l.initial.placed.items ++ map (placed_word l.words) (take l.k (pairs_of l.run))
