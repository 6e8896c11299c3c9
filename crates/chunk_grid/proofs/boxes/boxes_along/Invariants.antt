use Rattle.chunk_grid.proofs.BoxLaws.{AreBoxesTo}
use Rattle.chunk_grid.proofs.boxes.boxes_along.Given as goal

-- the boxes by the outputs so far
abbrev pub invariant-loop-j : goal.invariant-loop-j
invariant-loop-j l = AreBoxesTo l.dims l.maps l.chunk l.j l.boxes.items
