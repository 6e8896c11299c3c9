use Rattle.std.proofs.Common.{◌≡◌, map, take}
use Rattle.std.specs.List.{flat_map}
use Rattle.cells.specs.Runs.{pairs_of}
use Rattle.event_replay.specs.Placed.{placed_word}
use Rattle.event_replay.proofs.pairs.placed_words.Given as goal

-- the cells of the runs so far
abbrev pub invariant-loop-i : goal.invariant-loop-i
invariant-loop-i l = l.placed.items ≡ map (placed_word l.words) (flat_map pairs_of (take l.i l.runs))
