use Rattle.std.proofs.Common.{◌≡◌, ◌∷◌, take}
use Rattle.history.specs.Chunks.{chunk_index}
use Rattle.transaction_cells.proofs.locating.write_id.Given as goal

-- the numbers so far are those of the id
abbrev pub invariant-loop-k : goal.invariant-loop-k
invariant-loop-k l = l.id.items ≡ l.array ∷ take l.k (chunk_index l.chunk l.index)
