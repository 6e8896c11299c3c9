use Rattle.std.proofs.Common.{drop}
use Rattle.chunk_laying.specs.Behind.{IsCounted}
use Rattle.chunk_laying.proofs.counting.count_cut.Given as goal

-- both counts, of the dimensions that are done
abbrev pub invariant-loop-k : goal.invariant-loop-k
invariant-loop-k l = IsCounted (drop l.k l.chunk_shape) (drop l.k l.old) (drop l.k l.new) l.all l.cut
