use Rattle.std.proofs.Common.{◌≡◌, ◌≤◌, take, drop, length}
use Rattle.transaction_cells.specs.Cuts.{AreCuts}
use Rattle.transaction_cells.specs.Sites.{told_sites, AreTold}
use Rattle.transaction_cells.proofs.locating.put_all.Given as goal

-- the cuts have the sites so far, and what is left of the buffers tells the others
abbrev pub invariant-loop-view : goal.invariant-loop-view
invariant-loop-view l = record {
  from : l.from ≤ length l.t.numbers;
  cuts : AreCuts (take l.view (told_sites l.lanes l.t.leaves l.t.numbers)) l.cuts;
  rest : drop l.view (told_sites l.lanes l.t.leaves l.t.numbers) ≡ told_sites l.lanes (drop l.view l.t.leaves) (drop l.from l.t.numbers);
  told : AreTold l.lanes (drop l.view l.t.leaves) (drop l.from l.t.numbers);
}
