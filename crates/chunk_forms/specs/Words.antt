-- The words that a stored chunk has, and what is wrong with bytes that are no chunk.
use Rattle.std.specs.Prelude.{ℕ, List, length, drop, true, ◌==◌, Option, Some, None, if◌then◌else◌}
use Rattle.zarr_chunks.specs.Bytes.{byte_count, word_of_bytes}
use Rattle.zarr_chunks.specs.Places.{f_place}
pub use Rattle.zarr_chunks.specs.Shapes.{is_inside}
use Rattle.chunk_forms.specs.declared.form.Form.{Form}
use Rattle.chunk_forms.specs.declared.form.Form.TheVariants.{Zarr, N5, Zarr3, Local}
use Rattle.chunk_forms.specs.declared.form.Damage.{Damage}
use Rattle.chunk_forms.specs.declared.form.Damage.TheVariants as damage
use Rattle.zarr_chunks.specs.ElementChunk as chunk
use Rattle.zarr_chunks.specs.Chunk as zarr
use Rattle.zarr_chunks.specs.declared.ChunkError.TheVariants.{WrongLength}
use Rattle.n5_blocks.specs.Metadata as n5
use Rattle.n5_blocks.specs.Block as block
use Rattle.n5_blocks.specs.Faults.{block_fault, sizes_in, header_len}
use Rattle.zarr3_chunks.specs.Chunk as zarr3

-- bytes of another length than the elements have are no chunk
abbrev pub zarr_fault : chunk.Layout → List ℕ → Option Damage
zarr_fault m bytes = if length bytes == chunk.chunk_len m then None else Some (damage.Zarr (WrongLength (length bytes) (chunk.chunk_len m)))

abbrev pub n5_fault : n5.Metadata → List ℕ → Option Damage
n5_fault m bytes = elim (block_fault m bytes) [ None ↦ None | Some cause ↦ Some (damage.N5 cause) ]

-- the first thing wrong with a chunk's bytes
abbrev pub chunk_fault : Form → List ℕ → Option Damage
chunk_fault (Zarr meta) bytes = zarr_fault (zarr.layout_of meta) bytes
chunk_fault (N5 meta) bytes = n5_fault meta bytes
chunk_fault (Zarr3 meta) bytes = zarr_fault (zarr3.layout_of meta) bytes
chunk_fault Local bytes = None

-- the word that a block's bytes have at an index vector; 0 where a smaller block lacks it
abbrev pub block_word : n5.Metadata → List ℕ → List ℕ → ℕ
block_word m bytes index =
    if is_inside (sizes_in (length m.block) bytes) index
    then word_of_bytes m.dtype true (block.element_bytes (byte_count m.dtype) (drop (header_len (length m.block)) bytes) (f_place (sizes_in (length m.block) bytes) index))
    else 0

abbrev pub spelled_word : Form → List ℕ → List ℕ → ℕ
spelled_word (Zarr meta) bytes index = chunk.chunk_word (zarr.layout_of meta) bytes index
spelled_word (N5 meta) bytes index = block_word meta bytes index
spelled_word (Zarr3 meta) bytes index = chunk.chunk_word (zarr3.layout_of meta) bytes index
spelled_word Local bytes index = 0

-- the word that a chunk's bytes have at an index vector of the chunk; none where the bytes are no chunk
abbrev pub unless_damaged : Option Damage → ℕ → Option ℕ
unless_damaged None word = Some word
unless_damaged (Some cause) word = None

abbrev pub word_in : Form → List ℕ → List ℕ → Option ℕ
word_in form bytes index = unless_damaged (chunk_fault form bytes) (spelled_word form bytes index)

-- the word of a stored chunk at an index vector of the chunk: the fill where there are no bytes
abbrev pub stored_word : Form → ℕ → Option (List ℕ) → List ℕ → Option ℕ
stored_word form fill None index = Some fill
stored_word form fill (Some bytes) index = word_in form bytes index

-- the first thing wrong with a stored chunk; where there are no bytes, nothing is
abbrev pub stored_fault : Form → Option (List ℕ) → Option Damage
stored_fault form None = None
stored_fault form (Some bytes) = chunk_fault form bytes
