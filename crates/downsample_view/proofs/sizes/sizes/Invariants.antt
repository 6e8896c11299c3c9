use Rattle.std.proofs.Common.{◌≡◌, map, take}
use Rattle.index_intervals.specs.Members.{size_of}
use Rattle.downsample_view.specs.Groups.{new_dims}
use Rattle.downsample_view.proofs.sizes.sizes.Given as goal

abbrev pub invariant-loop-k : goal.invariant-loop-k
invariant-loop-k l = l.all.items ≡ map (size_of) (new_dims l.method (take l.k l.factors) (take l.k l.dims))
