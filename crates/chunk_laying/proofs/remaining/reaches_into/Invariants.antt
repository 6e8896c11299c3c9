use Rattle.std.proofs.Common.{◌≡◌, drop}
use Rattle.history.specs.Resizes.{reaches_into}
use Rattle.chunk_laying.proofs.remaining.reaches_into.Given as goal

-- the dimensions that are left decide
abbrev pub invariant-loop-k : goal.invariant-loop-k
invariant-loop-k l = reaches_into l.chunk_shape l.shape l.chunk ≡ reaches_into (drop l.k l.chunk_shape) (drop l.k l.shape) (drop l.k l.chunk)
