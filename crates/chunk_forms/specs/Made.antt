-- The metadata of an array that is made as it is asked.
use Rattle.std.specs.Prelude.{ℕ, List, map, max, codes, nat_le, false, Option, Some, None, unwrap_or, Result, Ok, Err, if◌then◌else◌}
use Rattle.zarr_chunks.specs.Places.{cell_count}
use Rattle.zarr_chunks.specs.declared.Dtype.{Dtype}
use Rattle.zarr_chunks.specs.declared.Order.TheVariants.{C}
use Rattle.zarr_chunks.specs.Want as zarr
use Rattle.n5_blocks.specs.Want as n5
use Rattle.zarr3_chunks.specs.Want as zarr3
use Rattle.chunk_forms.specs.declared.form.Form.{Form}
use Rattle.chunk_forms.specs.declared.form.Form.TheVariants as form
use Rattle.chunk_forms.specs.declared.form.Want.{Want}
use Rattle.chunk_forms.specs.declared.form.Want.TheVariants as want

-- a chunk of the whole array, in which each size 0 counts as 1
abbrev pub default_chunks : List ℕ → List ℕ
default_chunks shape = map (max 1) shape

-- the chunks of a new array: those asked, else the whole shape with each 0 taken as 1, if that has at most 2^24 cells
abbrev pub chunks_made : List ℕ → Option (List ℕ) → List ℕ → Result (List ℕ) (List ℕ)
chunks_made member (Some chunks) shape = Ok chunks
chunks_made member None shape = if nat_le (cell_count (default_chunks shape)) 16777216 then Ok (default_chunks shape) else Err member

abbrev pub with_chunks : (List ℕ → Form) → Result (List ℕ) (List ℕ) → Result Form (List ℕ)
with_chunks make (Ok chunks) = Ok (make chunks)
with_chunks make (Err member) = Err member

abbrev pub zarr_made : zarr.Want → Option (List ℕ) → Option Dtype → Result Form (List ℕ)
zarr_made w None dtype = Err (codes "shape")
zarr_made w (Some shape) None = Err (codes "dtype")
zarr_made w (Some shape) (Some dtype) =
    with_chunks (λ chunks. form.Zarr (record {
      shape = shape;
      chunks = chunks;
      dtype = dtype;
      big = unwrap_or w.big false;
      fill = unwrap_or w.fill None;
      order = unwrap_or w.order C;
      slash = unwrap_or w.slash false;
    })) (chunks_made (codes "chunks") w.chunks shape)

abbrev pub n5_made : n5.Want → Option (List ℕ) → Option Dtype → Result Form (List ℕ)
n5_made w None dtype = Err (codes "dimensions")
n5_made w (Some shape) None = Err (codes "dtype")
n5_made w (Some shape) (Some dtype) = with_chunks (λ block. form.N5 (record { dimensions = shape; block = block; dtype = dtype })) (chunks_made (codes "blockSize") w.block shape)

abbrev pub zarr3_made : zarr3.Want → Option (List ℕ) → Option Dtype → Result Form (List ℕ)
zarr3_made w None dtype = Err (codes "shape")
zarr3_made w (Some shape) None = Err (codes "dtype")
zarr3_made w (Some shape) (Some dtype) =
    with_chunks (λ chunks. form.Zarr3 (record {
      shape = shape;
      chunks = chunks;
      dtype = dtype;
      big = unwrap_or w.big false;
      fill = unwrap_or w.fill 0;
      dot = unwrap_or w.dot false;
    })) (chunks_made (codes "chunk_grid") w.chunks shape)

-- the metadata of a new array: what is asked, with the defaults; or the first member that isn't determined
abbrev pub form_made : Want → Result Form (List ℕ)
form_made (want.Zarr w) = zarr_made w w.shape w.dtype
form_made (want.N5 w) = n5_made w w.dimensions w.dtype
form_made (want.Zarr3 w) = zarr3_made w w.shape w.dtype
