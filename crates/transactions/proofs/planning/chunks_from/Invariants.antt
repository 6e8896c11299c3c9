use Rattle.std.proofs.Common.{◌≡◌, ◌++◌, ◌≤◌, drop}
use Rattle.std.specs.List.{AllByRecursion}
use Rattle.transactions.specs.Had.{IsDenseOrNone, had_from, snapshots_of}
use Rattle.transactions.proofs.planning.chunks_from.Given as goal

-- the chunks so far, and those of the sources that are left
abbrev pub invariant-loop-source : goal.invariant-loop-source
invariant-loop-source l = record {
  rest : l.chunks.items ++ snapshots_of (had_from (drop l.source-index l.sources) l.kept l.fetched l.next) ≡ snapshots_of (had_from l.sources l.kept l.fetched 0);
  few : l.next ≤ l.source-index;
  dense : AllByRecursion IsDenseOrNone l.chunks.items;
}
