use Rattle.std.proofs.Common.{◌-◌, ◌≤◌}
use Rattle.index_transform.specs.Maps.{size_of}
use Rattle.chunk_grid.specs.BoxSteps.{strided_number, goes_up}
use Rattle.chunk_grid.proofs.BoxCuts.{AreSegments}
use Rattle.chunk_grid.proofs.boxes.segments.Given as goal

-- the indices so far are cut
abbrev pub invariant-loop-done : goal.invariant-loop-done
invariant-loop-done l = record {
  within : l.done ≤ size_of l.dim;
  cut : AreSegments (strided_number l.offset l.stride l.size) l.dim (goes_up l.stride) l.done l.segments.items;
}

abbrev pub decreases-loop-done : goal.decreases-loop-done
decreases-loop-done l = l.count - l.done
