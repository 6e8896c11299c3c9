use Rattle.std.proofs.Common.{◌≡◌, ◌≤◌, ◌-◌, ◌*◌, ◌^◌, length, drop, unsigned_abs}
use Rattle.std.specs.List.{AllByRecursion}
use Rattle.cells.specs.Places.{cell_count}
use Rattle.chunk_grid.specs.Boxes.{chunk_steps}
use Rattle.chunk_grid.proofs.boxing.chunk_steps.Given as goal

abbrev pub invariant-loop-j : goal.invariant-loop-j
invariant-loop-j l =
    (l.j ≤ length l.maps) × (l.steps.items ≡ chunk_steps l.rank (drop l.j l.maps) (drop l.j l.chunk))
    × (AllByRecursion (λ x. unsigned_abs x ≤ (length l.maps - l.j) * 2 ^ 87) l.steps.items) × (l.width ≡ cell_count (drop l.j l.chunk))

abbrev pub decreases-loop-j : goal.decreases-loop-j
decreases-loop-j l = l.j
