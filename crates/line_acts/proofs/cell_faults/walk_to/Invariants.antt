use Rattle.std.proofs.Common.{◌≡◌, length, drop}
use Rattle.line_acts.proofs.cell_faults.walk_to.Given as goal

abbrev pub invariant-loop : goal.invariant-loop
invariant-loop l = record {
  rank : length l.out ≡ l.walk.rank;
  cells : l.walk.cells ≡ drop l.counter l.fn.walk.cells;
}
