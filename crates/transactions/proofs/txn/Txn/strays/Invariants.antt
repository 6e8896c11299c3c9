use Rattle.std.proofs.Common.{◌≡◌, ◌++◌, ◌≤◌, drop}
use Rattle.transactions.specs.Had.{had_from}
use Rattle.transactions.specs.Strays.{AreFitting, strays_of}
use Rattle.transactions.proofs.txn.Txn.strays.Given as goal

-- those so far, and those of the pieces that are left
abbrev pub invariant-loop-k : goal.invariant-loop-k
invariant-loop-k l = record {
  rest : l.strays.items ++ strays_of l.self.staged (drop l.k l.cells.pieces) (had_from (drop l.k l.sources) l.self.kept l.fetched l.next) ≡ strays_of l.self.staged l.cells.pieces (had_from l.sources l.self.kept l.fetched 0);
  fit : AreFitting (drop l.k l.cells.pieces) (had_from (drop l.k l.sources) l.self.kept l.fetched l.next);
  few : l.next ≤ l.k;
}
