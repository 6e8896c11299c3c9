-- What a chunk's bytes spell, and which bytes are written for it.
use Rattle.std.specs.Prelude.{ℕ, List}
use Rattle.chunk_forms.specs.declared.form.Form.{Form}
use Rattle.chunk_forms.specs.declared.form.Form.TheVariants.{Zarr, N5, Zarr3, Local}
use Rattle.zarr_chunks.specs.Chunk as zarr
use Rattle.n5_blocks.specs.Block as n5
use Rattle.zarr3_chunks.specs.Chunk as zarr3
pub use Rattle.n5_blocks.specs.Block.{cut_sizes}

-- the bytes are a chunk in which each index vector of the chunk has this word
abbrev pub SpellsChunk : Form → List ℕ → (List ℕ → ℕ) → Type 0
SpellsChunk (Zarr meta) bytes word = zarr.SpellsChunk meta bytes word
SpellsChunk (N5 meta) bytes word = n5.SpellsBlock meta bytes word
SpellsChunk (Zarr3 meta) bytes word = zarr3.SpellsChunk meta bytes word
SpellsChunk Local bytes word = ⊥

-- the bytes are what is written for the chunk of this index, the array having this shape: a block of N5 reaches only as far as
-- the array, and every other chunk has its full size
abbrev pub WritesChunk : Form → List ℕ → List ℕ → List ℕ → (List ℕ → ℕ) → Type 0
WritesChunk (Zarr meta) index shape bytes word = zarr.SpellsChunk meta bytes word
WritesChunk (N5 meta) index shape bytes word = n5.StoresCells meta (n5.cut_sizes meta.block shape index) bytes word
WritesChunk (Zarr3 meta) index shape bytes word = zarr3.SpellsChunk meta bytes word
WritesChunk Local index shape bytes word = ⊥

-- what is written for the chunk of this index must not lose a word: an N5 block has a cell inside the array, and 0 in each
-- cell outside
abbrev pub MayWrite : Form → List ℕ → (List ℕ → ℕ) → Type 0
MayWrite (Zarr meta) index word = Unit {0}
MayWrite (N5 meta) index word = n5.IsReached meta index × n5.IsZeroOutside meta index word
MayWrite (Zarr3 meta) index word = Unit {0}
MayWrite Local index word = Unit {0}
