use Rattle.std.proofs.Common.{◌+◌, ◌*◌}
use Rattle.chunk_elements.specs.Planes.{nth_row, over_row}
use Rattle.chunk_elements.proofs.PlaneLaws.{IsOver}
use Rattle.chunk_elements.proofs.plane.move_strip.Given as goal

abbrev pub invariant-loop-i : goal.invariant-loop-i
invariant-loop-i l =
    IsOver (λ i. over_row l.way.dtype l.way.big l.way.to l.strip.done l.strip.count l.plane.stride (l.plane.from + l.strip.done * l.plane.stride + i * l.plane.step) l.elements (nth_row l.plane.width l.initial.out i))
    l.plane.width l.i l.initial.out l.out
