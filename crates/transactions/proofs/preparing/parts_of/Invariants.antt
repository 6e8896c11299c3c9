use Rattle.std.proofs.Common.{◌≡◌, ◌++◌, map}
use Rattle.chunk_fetches.specs.Staging.{chunks_of}
use Rattle.transactions.specs.Preparing.{seen_chunk, seen_part}
use Rattle.transactions.proofs.preparing.parts_of.Given as goal

-- the parts so far, and the chunks that are left
abbrev pub invariant-loop-id : goal.invariant-loop-id
invariant-loop-id l = map seen_part l.parts.items ++ map seen_chunk (chunks_of l.id-iterator) ≡ map seen_chunk l.staging
