-- What a transaction prepares for its commit.
use Rattle.std.specs.Prelude.{ℕ, List, [], ◌∷◌, Option}
use Rattle.commits.specs.declared.ChunkWrite.{ChunkWrite}
use Rattle.history.specs.Chunks.{Chunk}
use Rattle.history.specs.declared.event.Mode.{Mode}
use Rattle.history.specs.declared.event.Op.{Op}
use Rattle.commits.specs.Asking.{chunk_of_part}
use Rattle.commits.specs.Laying.{MayReady}
use Rattle.commits.specs.Readying.{IsWriteFor}
use Rattle.commits.specs.declared.Asked.{Asked}
use Rattle.commits.specs.declared.Part.{Part}
use Rattle.chunk_fetches.specs.Staging.{StagedChunk}
use Rattle.transactions.specs.Txn.{TxnSeen}
use Rattle.chunk_fetches.specs.Kept.{chunk_at}
use Rattle.chunk_fetches.specs.declared.kept.Kept.{Kept}

-- the transaction of these parts
abbrev pub txn_of : ℕ → Mode → List Op → List StagedChunk → List Kept → TxnSeen
txn_of line mode ops staged kept = record { line = line; mode = mode; ops = ops; staged = staged; kept = kept }

-- a chunk and the words that are staged for it
abbrev pub seen_chunk : StagedChunk → Chunk × List (Option ℕ)
seen_chunk c = (chunk_at c.id, c.cells)

abbrev pub seen_part : Part → Chunk × List (Option ℕ)
seen_part p = (chunk_of_part p, p.staged.now)

-- bytes may be prepared of the chunk
abbrev pub MayWriteOf : Asked → Type 0
MayWriteOf a = MayReady a.form a.part.chunk.now a.part.staged.now a.under

-- a write for each chunk that was asked for, in order
abbrev pub AreWritesFor : List Asked → List ChunkWrite → Type 0
AreWritesFor [] [] = Unit {0}
AreWritesFor [] (w ∷ writes) = ⊥
AreWritesFor (a ∷ asked) [] = ⊥
AreWritesFor (a ∷ asked) (w ∷ writes) = IsWriteFor a w × AreWritesFor asked writes
