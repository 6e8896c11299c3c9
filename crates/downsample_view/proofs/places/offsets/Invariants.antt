use Rattle.std.proofs.Common.{◌≡◌, map}
use Rattle.index_transform.specs.Cells.{counting}
use Rattle.downsample_view.specs.Places.{offset_of}
use Rattle.downsample_view.proofs.places.offsets.Given as goal

abbrev pub invariant-loop-k : goal.invariant-loop-k
invariant-loop-k l = l.all.items ≡ map (offset_of l.method l.factor l.dim) (counting l.dim.lo l.k)
