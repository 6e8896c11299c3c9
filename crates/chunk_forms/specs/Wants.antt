-- Where metadata differs from what is asked.
use Rattle.std.specs.Prelude.{ℕ, List, [], ◌∷◌, codes, nat_eq, Bool, true, false, not, ◌&&◌, ◌==◌, Option, Some, None, unwrap_or, if◌then◌else◌}
use Rattle.std.specs.Option.{option_map}
use Rattle.std.specs.Str.{bytes_eq}
use Rattle.zarr_chunks.specs.Bytes.{byte_count}
use Rattle.zarr_chunks.specs.DtypeNames.{dtype_name}
use Rattle.zarr_chunks.specs.declared.Dtype.{Dtype}
use Rattle.zarr_chunks.specs.declared.Order.{Order}
use Rattle.zarr_chunks.specs.Metadata as zarr
use Rattle.zarr_chunks.specs.Want as zarr_want
use Rattle.zarr_chunks.specs.Written.{order_text}
use Rattle.n5_blocks.specs.Metadata as n5
use Rattle.n5_blocks.specs.Want as n5_want
use Rattle.zarr3_chunks.specs.Metadata as zarr3
use Rattle.zarr3_chunks.specs.Want as zarr3_want
use Rattle.chunk_forms.specs.declared.form.Form.{Form}
use Rattle.chunk_forms.specs.declared.form.Form.TheVariants as form
use Rattle.chunk_forms.specs.declared.form.Want.{Want}
use Rattle.chunk_forms.specs.declared.form.Want.TheVariants as want

-- the metadata is of the form that is asked
abbrev pub is_asked_form : Want → Form → Bool
is_asked_form (want.Zarr w) (form.Zarr meta) = true
is_asked_form (want.N5 w) (form.N5 meta) = true
is_asked_form (want.Zarr3 w) (form.Zarr3 meta) = true
is_asked_form w other = false

-- something else is asked
abbrev pub asks_other : {A : Type 0} → (A → A → Bool) → Option A → A → Bool
asks_other same None value = false
asks_other same (Some asked) value = not (same asked value)

abbrev pub same_dtype : Dtype → Dtype → Bool
same_dtype one other = bytes_eq (dtype_name one) (dtype_name other)

abbrev pub same_order : Order → Order → Bool
same_order one other = bytes_eq (order_text one) (order_text other)

abbrev pub same_flag : Bool → Bool → Bool
same_flag true other = other
same_flag false other = not other

abbrev pub asks_other_order : Dtype → Option Bool → Bool → Bool
asks_other_order dtype asked big = not (byte_count dtype == 1) && asks_other same_flag asked big

-- the first of some members that differs
abbrev pub first_differing : List (List ℕ × Bool) → Option (List ℕ)
first_differing [] = None
first_differing (member ∷ members) = if member.1 then Some member.0 else first_differing members

abbrev pub zarr_mismatch_behind : Option Order → Option (Option ℕ) → Option Bool → zarr.Metadata → Option (List ℕ)
zarr_mismatch_behind order fill slash m = first_differing (
    (codes "order", asks_other same_order order m.order)
    ∷ (codes "fill_value", asks_other nat_eq (option_map (λ f. unwrap_or f 0) fill) (unwrap_or m.fill 0))
    ∷ (codes "dimension_separator", asks_other same_flag slash m.slash) ∷ [])

-- the first member in which an array of Zarr 2 differs; the byte order is part of its `dtype`, and a fill that is null equals 0
abbrev pub zarr_mismatch : zarr_want.Want → zarr.Metadata → List ℕ → Option (List ℕ)
zarr_mismatch w m shape =
    if asks_other same_dtype w.dtype m.dtype then Some (codes "dtype")
    else (if asks_other_order m.dtype w.big m.big then Some (codes "dtype")
    else (if asks_other bytes_eq w.shape shape then Some (codes "shape")
    else (if asks_other bytes_eq w.chunks m.chunks then Some (codes "chunks")
    else zarr_mismatch_behind w.order w.fill w.slash m)))

abbrev pub n5_mismatch : n5_want.Want → n5.Metadata → List ℕ → Option (List ℕ)
n5_mismatch w m shape = first_differing (
    (codes "dtype", asks_other same_dtype w.dtype m.dtype) ∷ (codes "dimensions", asks_other bytes_eq w.dimensions shape)
    ∷ (codes "blockSize", asks_other bytes_eq w.block m.block) ∷ [])

abbrev pub zarr3_mismatch : zarr3_want.Want → zarr3.Metadata → List ℕ → Option (List ℕ)
zarr3_mismatch w m shape = first_differing (
    (codes "dtype", asks_other same_dtype w.dtype m.dtype) ∷ (codes "shape", asks_other bytes_eq w.shape shape)
    ∷ (codes "chunk_grid", asks_other bytes_eq w.chunks m.chunks) ∷ (codes "fill_value", asks_other nat_eq w.fill m.fill)
    ∷ (codes "codecs", asks_other_order m.dtype w.big m.big) ∷ (codes "chunk_key_encoding", asks_other same_flag w.dot m.dot) ∷ [])

-- the first member in which an array of this form and shape differs from what is asked
abbrev pub mismatch_of : Want → Form → List ℕ → Option (List ℕ)
mismatch_of (want.Zarr w) (form.Zarr meta) shape = zarr_mismatch w meta shape
mismatch_of (want.N5 w) (form.N5 meta) shape = n5_mismatch w meta shape
mismatch_of (want.Zarr3 w) (form.Zarr3 meta) shape = zarr3_mismatch w meta shape
mismatch_of w other shape = Some (codes "driver")

-- how the metadata's key ends, in the form that is asked
abbrev pub metadata_name_asked : Want → List ℕ
metadata_name_asked (want.Zarr w) = codes ".zarray"
metadata_name_asked (want.N5 w) = codes "attributes.json"
metadata_name_asked (want.Zarr3 w) = codes "zarr.json"
