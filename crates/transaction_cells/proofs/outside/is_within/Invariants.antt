use Rattle.std.proofs.Common.{◌≡◌, drop}
use Rattle.transaction_cells.proofs.OutsideLaws.{is_within}
use Rattle.transaction_cells.proofs.outside.is_within.Given as goal

-- the dimensions that are left decide
abbrev pub invariant-loop-k : goal.invariant-loop-k
invariant-loop-k l = is_within (drop l.k l.shape) (drop l.k l.chunk) (drop l.k l.index) ≡ is_within l.shape l.chunk l.index
