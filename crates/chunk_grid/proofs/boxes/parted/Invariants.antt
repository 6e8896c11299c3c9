use Rattle.chunk_grid.specs.Boxes.{chunk_along}
use Rattle.chunk_grid.specs.BoxSteps.{AreSplit}
use Rattle.chunk_grid.proofs.boxes.parted.Given as goal

-- the parts of the boxes so far
abbrev pub invariant-loop-cells : goal.invariant-loop-cells
invariant-loop-cells l = AreSplit (chunk_along l.map l.size) l.yielded l.all.items
