-- The written form of metadata may be written, and describes the metadata.
use Rattle.std.proofs.Common.{◌≡◌, ℕ, ℤ, pos, negsuc, ◌≤◌, List, [], ◌∷◌, map, false, Option, Some, None, inl, refl, arith}
use Rattle.serde_json.specs.Data.{depth, items_depth}
use Rattle.serde_json.specs.Read.{max_depth}
use Rattle.serde_json.specs.View.{items_of}
use Rattle.serde_json.specs.Written.{has_float}
use Rattle.serde_json.proofs.OnLiterals.{serde_json_on_literals}
use Rattle.meta_forms.specs.Numbers.{natural, integer, whole_number}
use Rattle.meta_forms.proofs.Laws.{has_float-integer, has_float-naturals}
use Rattle.chunk_elements.specs.Numbers.{number_of}
use Rattle.chunk_elements.specs.declared.Dtype.{Dtype}
use Rattle.zarr_chunks.specs.Metadata.{Metadata}
use Rattle.zarr_chunks.specs.Written.{fill_data, metadata_data, byte_order, dtype_text}
use Rattle.zarr_chunks.specs.Described.{Describes, IsFillMember}

has_float-fill : (dtype : Dtype) (fill : Option ℕ) → has_float (fill_data dtype fill) ≡ false
has_float-fill dtype None = refl
has_float-fill dtype (Some word) = has_float-integer (number_of dtype word)

-- there is no float
pub has_float-metadata : (m : Metadata) → has_float (metadata_data m) ≡ false
has_float-metadata m = rw (has_float-naturals m.chunks, has_float-fill m.dtype m.fill, has_float-naturals m.shape) refl

items_depth-naturals : (ns : List ℕ) → items_depth (items_of (map natural ns)) ≡ 0
items_depth-naturals [] = refl
items_depth-naturals (n ∷ ns) = rw (items_depth-naturals ns) refl

depth-fill : (dtype : Dtype) (fill : Option ℕ) → depth (fill_data dtype fill) ≡ 0
depth-fill dtype None = refl
depth-fill dtype (Some word) = refl

-- it nests two levels deep
pub depth-metadata : (m : Metadata) → depth (metadata_data m) ≤ max_depth
depth-metadata m = rw (items_depth-naturals m.chunks, depth-fill m.dtype m.fill, items_depth-naturals m.shape) (omega arith)

-- the number of an integer is that integer
whole_number-integer : (z : ℤ) → whole_number (integer z) ≡ Some z
whole_number-integer (pos n) = refl
whole_number-integer (negsuc n) = refl

fill_described : (dtype : Dtype) (fill : Option ℕ) → IsFillMember (Some (fill_data dtype fill)) dtype fill
fill_described dtype None = refl
fill_described dtype (Some word) = whole_number-integer (number_of dtype word)

-- it describes the metadata
pub Describes-metadata : (m : Metadata) → Describes (metadata_data m) m
unfolding serde_json_on_literals
Describes-metadata m = record {
  format = refl;
  shape = refl;
  chunks = refl;
  dtype = (dtype_text m.dtype m.big, refl, record { mark = byte_order m.dtype m.big; text_is = refl; mark_is = inl refl });
  compressor = refl;
  fill = fill_described m.dtype m.fill;
  order = refl;
  filters = inl refl;
  between = inl refl;
}
