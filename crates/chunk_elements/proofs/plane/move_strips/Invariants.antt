use Rattle.std.proofs.Common.{◌-◌}
use Rattle.chunk_elements.proofs.PlaneLaws.{IsFront}
use Rattle.chunk_elements.proofs.plane.move_strips.Given as goal

abbrev pub invariant-loop-done : goal.invariant-loop-done
invariant-loop-done l = IsFront l.way.dtype l.way.big l.way.to l.plane.rows l.plane.width l.plane.columns l.plane.step l.plane.stride l.plane.from l.done l.elements l.initial.out l.out

abbrev pub decreases-loop-done : goal.decreases-loop-done
decreases-loop-done l = l.plane.columns - l.done
