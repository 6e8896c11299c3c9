use Rattle.std.proofs.Common.{◌≡◌, drop}
use Rattle.history.specs.Resizes.{is_shorter}
use Rattle.chunk_laying.proofs.remaining.is_shorter.Given as goal

-- the dimensions that are left decide
abbrev pub invariant-loop-k : goal.invariant-loop-k
invariant-loop-k l =
    is_shorter l.chunk_shape l.old l.new l.chunk ≡ is_shorter (drop l.k l.chunk_shape) (drop l.k l.old) (drop l.k l.new) (drop l.k l.chunk)
