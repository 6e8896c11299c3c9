-- What metadata says, in each form.
use Rattle.std.specs.Prelude.{ℕ, Bool, true, false, List, [], unwrap_or}
use Rattle.zarr_chunks.specs.declared.Dtype.{Dtype}
use Rattle.zarr_chunks.specs.declared.Dtype.TheVariants.{U8}
use Rattle.serde_json.specs.Written.{compact_text}
use Rattle.chunk_forms.specs.declared.form.Form.{Form}
use Rattle.chunk_forms.specs.declared.form.Form.TheVariants.{Zarr, N5, Zarr3, Local}
use Rattle.zarr_chunks.specs.Metadata as zarr
use Rattle.zarr_chunks.specs.Written as zarr_written
use Rattle.zarr_chunks.specs.Described as zarr_described
use Rattle.n5_blocks.specs.Metadata as n5
use Rattle.n5_blocks.specs.Written as n5_written
use Rattle.n5_blocks.specs.Described as n5_described
use Rattle.zarr3_chunks.specs.Metadata as zarr3
use Rattle.zarr3_chunks.specs.Written as zarr3_written
use Rattle.zarr3_chunks.specs.Described as zarr3_described

-- the array's shape, in cells
abbrev pub shape_of : Form → List ℕ
shape_of (Zarr meta) = meta.shape
shape_of (N5 meta) = meta.dimensions
shape_of (Zarr3 meta) = meta.shape
shape_of Local = []

-- the shape of its chunks, in cells
abbrev pub chunk_shape_of : Form → List ℕ
chunk_shape_of (Zarr meta) = meta.chunks
chunk_shape_of (N5 meta) = meta.block
chunk_shape_of (Zarr3 meta) = meta.chunks
chunk_shape_of Local = []

abbrev pub dtype_of : Form → Dtype
dtype_of (Zarr meta) = meta.dtype
dtype_of (N5 meta) = meta.dtype
dtype_of (Zarr3 meta) = meta.dtype
dtype_of Local = U8

-- the word of a cell that is in no chunk; without a fill it is 0
abbrev pub fill_of : Form → ℕ
fill_of (Zarr meta) = unwrap_or meta.fill 0
fill_of (N5 meta) = 0
fill_of (Zarr3 meta) = meta.fill
fill_of Local = 0

-- the rules of metadata
abbrev pub IsMetadata : Form → Type 0
IsMetadata (Zarr meta) = zarr.IsMetadata meta
IsMetadata (N5 meta) = n5.IsMetadata meta
IsMetadata (Zarr3 meta) = zarr3.IsMetadata meta
IsMetadata Local = Unit {0}

-- the bytes are this metadata, perhaps with other members
abbrev pub SpellsMetadata : Form → List ℕ → Type 0
SpellsMetadata (Zarr meta) bytes = zarr_described.SpellsMetadata meta bytes
SpellsMetadata (N5 meta) bytes = n5_described.SpellsMetadata meta bytes
SpellsMetadata (Zarr3 meta) bytes = zarr3_described.SpellsMetadata meta bytes
SpellsMetadata Local bytes = ⊥

-- the same metadata with another shape
abbrev pub with_shape : Form → List ℕ → Form
with_shape (Zarr meta) shape = Zarr (record meta { shape = shape })
with_shape (N5 meta) shape = N5 (record meta { dimensions = shape })
with_shape (Zarr3 meta) shape = Zarr3 (record meta { shape = shape })
with_shape Local shape = Local

-- the written form
abbrev pub metadata_text : Form → List ℕ
metadata_text (Zarr meta) = compact_text (zarr_written.metadata_data meta)
metadata_text (N5 meta) = compact_text (n5_written.metadata_data meta)
metadata_text (Zarr3 meta) = compact_text (zarr3_written.metadata_data meta)
metadata_text Local = []

-- a local array's chunk is held by the run, not stored
abbrev pub is_local : Form → Bool
is_local (Zarr meta) = false
is_local (N5 meta) = false
is_local (Zarr3 meta) = false
is_local Local = true
