use Rattle.version_store.proofs.putting.new_chunk.Goals as goal

pub returns : goal.returns
returns c = record { size = c.in_ok-chunk.ensures.size; touches = c.in_ok-chunk.ensures.touches; words = c.in_ok-chunk.ensures.words }
