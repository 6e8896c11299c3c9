use Rattle.std.proofs.Common.{◌≡◌, ◌≤◌, length, map, drop}
use Rattle.index_transform.specs.Cells.{cells_of}
use Rattle.downsample_view.specs.Places.{new_count, place_of}
use Rattle.downsample_view.proofs.places.places.Given as goal

abbrev pub invariant-loop-k : goal.invariant-loop-k
invariant-loop-k l =
    (l.k ≤ length l.dims) × (l.count ≡ new_count l.method (drop l.k l.factors) (drop l.k l.dims))
    × (l.list.items ≡ map (place_of l.method (drop l.k l.factors) (drop l.k l.dims)) (cells_of (drop l.k l.dims)))

abbrev pub decreases-loop-k : goal.decreases-loop-k
decreases-loop-k l = l.k
