use Rattle.std.proofs.Common.{◌≡◌, ◌≤◌, length, map, drop}
use Rattle.cells.specs.Places.{cell_count}
use Rattle.index_transform.specs.Maps.{size_of}
use Rattle.chunk_grid.specs.Boxes.{view_steps}
use Rattle.chunk_grid.proofs.boxing.view_steps.Given as goal

abbrev pub invariant-loop-d : goal.invariant-loop-d
invariant-loop-d l =
    (l.d ≤ length l.dims) × (length l.steps.items ≡ length l.dims) × (drop l.d l.steps.items ≡ view_steps (drop l.d l.dims))
    × (l.width ≡ cell_count (map size_of (drop l.d l.dims)))

abbrev pub decreases-loop-d : goal.decreases-loop-d
decreases-loop-d l = l.d
