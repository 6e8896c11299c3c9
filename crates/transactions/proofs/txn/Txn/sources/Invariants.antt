use Rattle.std.proofs.Common.{◌≡◌, ◌++◌, drop}
use Rattle.chunk_fetches.specs.Sources.{sources_of}
use Rattle.transactions.proofs.txn.Txn.sources.Given as goal

-- the sources so far, and those of the pieces that are left
abbrev pub invariant-loop-piece : goal.invariant-loop-piece
invariant-loop-piece l = l.sources.items ++ sources_of l.self.staged l.self.kept (drop l.piece l.cells.pieces) ≡ sources_of l.self.staged l.self.kept l.cells.pieces
