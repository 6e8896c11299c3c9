use Rattle.std.proofs.Common.{drop}
use Rattle.chunk_laying.proofs.RowLaws.{AreWhole}
use Rattle.chunk_laying.proofs.rows.rows_of.Given as goal

-- the dimensions that are done are whole
abbrev pub invariant-loop-k : goal.invariant-loop-k
invariant-loop-k l = AreWhole (drop l.k l.chunk_shape) (drop l.k l.shape) (drop l.k l.chunk) l.len
