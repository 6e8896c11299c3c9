use Rattle.std.specs.List.{AllByRecursion}
use Rattle.transaction_cells.specs.Casting.{HasLane}
use Rattle.std.proofs.Common.{drop}
use Rattle.transaction_cells.proofs.CastLaws.{AreOutUpTo}
use Rattle.transaction_cells.proofs.view_cells.cast_out.Given as goal

-- the words so far are taken outwards
abbrev pub invariant-loop-cell : goal.invariant-loop-cell
invariant-loop-cell l = record {
  words : AreOutUpTo l.lanes l.leaves l.initial.words l.words l.cell;
  lanes : AllByRecursion (HasLane l.lanes) (drop l.cell l.leaves);
}
