use Rattle.std.proofs.Common.{◌≤◌, length}
use Rattle.std.specs.Prelude.{IsTrue}
use Rattle.chunk_grid.specs.Rows.{is_split}
use Rattle.chunk_grid.proofs.rows.best_split.Given as goal

-- the best so far is a split
abbrev pub invariant-loop-k : goal.invariant-loop-k
invariant-loop-k l = record {
  within : l.best ≤ length l.dims;
  split : IsTrue (is_split l.best l.maps);
}
