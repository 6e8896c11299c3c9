use Rattle.std.proofs.Common.{◌≡◌, map, take}
use Rattle.chunk_grid.specs.BoxSteps.{narrowed_box}
use Rattle.chunk_grid.proofs.boxes.narrowed_each.Given as goal

-- the parts of the segments so far
abbrev pub invariant-loop-segment : goal.invariant-loop-segment
invariant-loop-segment l = l.parts.items ≡ map (narrowed_box l.cells l.dim) (take l.segment-index l.segment-items)
