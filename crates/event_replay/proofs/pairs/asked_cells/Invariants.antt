use Rattle.std.proofs.Common.{◌≡◌, map, take}
use Rattle.std.specs.List.{flat_map}
use Rattle.cells.specs.Runs.{pairs_of}
use Rattle.event_replay.specs.Placed.{asked_cell}
use Rattle.event_replay.proofs.pairs.asked_cells.Given as goal

-- the cells of the runs so far
abbrev pub invariant-loop-i : goal.invariant-loop-i
invariant-loop-i l = l.asked.items ≡ map (asked_cell l.leaves l.words) (flat_map pairs_of (take l.i l.runs))
