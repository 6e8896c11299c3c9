use Rattle.std.proofs.Common.{◌≡◌, ◌≤◌, ◌++◌, take, drop, length, None}
use Rattle.index_transform.specs.Walks.{lows, next_cell}
use Rattle.index_transform.proofs.walk.step.Given as goal

-- the indices from k on have begun again
abbrev pub invariant-loop-k : goal.invariant-loop-k
invariant-loop-k l = (l.k ≤ length l.dims)
    × (l.index ≡ take l.k l.initial.index ++ lows (drop l.k l.dims))
    × (next_cell (drop l.k l.dims) (drop l.k l.initial.index) ≡ None)

abbrev pub decreases-loop-k : goal.decreases-loop-k
decreases-loop-k l = l.k
