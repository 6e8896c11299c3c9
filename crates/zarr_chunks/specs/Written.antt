-- The written form of metadata.
use Rattle.std.specs.Prelude.{ℕ, List, [], ◌∷◌, Bool, map, codes, Option, Some, None, ◌==◌, if◌then◌else◌}
use Rattle.chunk_elements.specs.Bytes.{byte_count}
use Rattle.chunk_elements.specs.Numbers.{number_of}
use Rattle.chunk_elements.specs.declared.Dtype.{Dtype}
use Rattle.chunk_elements.specs.declared.Dtype.TheVariants.{I8, U8, I16, U16, I32, U32, I64, U64}
use Rattle.chunk_elements.specs.declared.Order.{Order}
use Rattle.chunk_elements.specs.declared.Order.TheVariants.{C, F}
use Rattle.serde_json.specs.Data.{Data, null, string}
use Rattle.meta_forms.specs.Numbers.{natural, integer}
use Rattle.meta_forms.specs.Lists.{list_of}
use Rattle.meta_forms.specs.Members.{object_of}
use Rattle.zarr_chunks.specs.Key.{separator}
use Rattle.zarr_chunks.specs.Metadata.{Metadata}

-- "i" for signed or "u", and the number of bytes
abbrev pub type_name : Dtype → List ℕ
type_name I8 = codes "i1"
type_name U8 = codes "u1"
type_name I16 = codes "i2"
type_name U16 = codes "u2"
type_name I32 = codes "i4"
type_name U32 = codes "u4"
type_name I64 = codes "i8"
type_name U64 = codes "u8"

-- the byte order: "|" where an element is one byte, else ">" for the highest byte first and "<" for the lowest
abbrev pub byte_order : Dtype → Bool → ℕ
byte_order dtype big = if byte_count dtype == 1 then 124 else (if big then 62 else 60)

-- the byte order and the name of the type
abbrev pub dtype_text : Dtype → Bool → List ℕ
dtype_text dtype big = byte_order dtype big ∷ type_name dtype

-- the fill as a number, or null
abbrev pub fill_data : Dtype → Option ℕ → Data
fill_data dtype None = null
fill_data dtype (Some word) = integer (number_of dtype word)

-- "C" or "F"
abbrev pub order_text : Order → List ℕ
order_text C = codes "C"
order_text F = codes "F"

-- the nine members, by their names in byte order
abbrev pub metadata_data : Metadata → Data
metadata_data m = object_of (
    (codes "chunks", list_of (map natural m.chunks)) ∷ (codes "compressor", null) ∷ (codes "dimension_separator", string (separator m.slash ∷ []))
    ∷ (codes "dtype", string (dtype_text m.dtype m.big)) ∷ (codes "fill_value", fill_data m.dtype m.fill) ∷ (codes "filters", null)
    ∷ (codes "order", string (order_text m.order)) ∷ (codes "shape", list_of (map natural m.shape)) ∷ (codes "zarr_format", natural 2) ∷ [])
