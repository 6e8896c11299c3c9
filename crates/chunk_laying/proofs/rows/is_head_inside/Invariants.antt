use Rattle.std.proofs.Common.{take}
use Rattle.chunk_laying.proofs.RowLaws.{IsLeft}
use Rattle.chunk_laying.proofs.rows.is_head_inside.Given as goal

-- the dimensions that are left decide, at what is left of the row's number
abbrev pub invariant-loop-k : goal.invariant-loop-k
invariant-loop-k l = IsLeft (take l.head l.chunk_shape) (take l.head l.shape) (take l.head l.chunk) l.row l.k l.below l.rest
