use Rattle.std.proofs.Common.{◌≡◌, ◌++◌, drop}
use Rattle.std.specs.List.{AllByRecursion}
use Rattle.transaction_cells.specs.Casting.{HasLane, taken_back}
use Rattle.transaction_cells.proofs.view_cells.cast_back.Given as goal

-- the words so far, and those of the cells that are left
abbrev pub invariant-loop-cell : goal.invariant-loop-cell
invariant-loop-cell l = record {
  rest : l.kept.items ++ taken_back l.lanes (drop l.cell l.leaves) (drop l.cell l.words) ≡ taken_back l.lanes l.leaves l.words;
  lanes : AllByRecursion (HasLane l.lanes) (drop l.cell l.leaves);
}
