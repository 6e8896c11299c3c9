use Rattle.std.proofs.Common.{◌≡◌, map, drop}
use Rattle.index_transform.specs.Maps.{size_of}
use Rattle.index_transform.specs.Cells.{counted_from}
use Rattle.index_transform.proofs.count.counted.Given as goal

-- the rest is counted from the product so far
abbrev pub invariant-loop-k : goal.invariant-loop-k
invariant-loop-k l = counted_from 1 0 (map size_of l.dims) ≡ counted_from l.count l.k (map size_of (drop l.k l.dims))
