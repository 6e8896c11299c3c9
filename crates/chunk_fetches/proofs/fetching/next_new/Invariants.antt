use Rattle.std.proofs.Common.{◌≡◌, ◌≤◌, ◌-◌, List, drop, length}
use Rattle.transaction_cells.specs.declared.view_cells.Piece.{Piece}
use Rattle.chunk_fetches.specs.Sources.{new_pieces}
use Rattle.chunk_fetches.proofs.fetching.next_new.Given as goal

-- none so far is to be fetched
abbrev pub invariant-loop-k : goal.invariant-loop-k
invariant-loop-k l = record {
  from : l.from ≤ l.k;
  to : l.k ≤ length l.sources;
  next : (pieces : List Piece) → length l.sources ≡ length pieces → new_pieces (drop l.k l.sources) (drop l.k pieces) ≡ new_pieces (drop l.from l.sources) (drop l.from pieces);
}

abbrev pub decreases-loop-k : goal.decreases-loop-k
decreases-loop-k l = length l.sources - l.k
