-- Words in another order.
use Rattle.std.specs.Prelude.{◌≡◌, List, filter, Bool}
use Rattle.history.specs.Chunks.{Chunk, is_chunk, chunk_of}
use Rattle.history.specs.History.{History}
use Rattle.history.specs.Writes.{Put}

-- a word is put into the chunk
abbrev pub is_in : History → Chunk → Put → Bool
is_in history c p = is_chunk (chunk_of history p.0) c

-- into each chunk the same words are put, in the same order
abbrev pub AreSameByChunks : History → List Put → List Put → Type 0
AreSameByChunks history ps qs = (c : Chunk) → filter (is_in history c) ps ≡ filter (is_in history c) qs
