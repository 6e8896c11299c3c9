-- What a chunk's bytes spell.
use Rattle.std.specs.Prelude.{ℕ, List}
use Rattle.chunk_elements.specs.Chunk as chunk
use Rattle.zarr_chunks.specs.Metadata.{Metadata}
pub use Rattle.chunk_elements.specs.Elements.{element_bytes, word_at}

-- how the elements of an array's chunks lie
abbrev pub layout_of : Metadata → chunk.Layout
layout_of m = record { chunks = m.chunks; dtype = m.dtype; big = m.big; order = m.order }

-- the bytes are a chunk of the array and nothing else, in which each index vector of the chunk has this word: the
-- elements stand in the stated order, each in the stated byte order
abbrev pub SpellsChunk : Metadata → List ℕ → (List ℕ → ℕ) → Type 0
SpellsChunk m bytes word = chunk.SpellsChunk (layout_of m) bytes word

-- how many bytes a chunk has
abbrev pub chunk_len : Metadata → ℕ
chunk_len m = chunk.chunk_len (layout_of m)
