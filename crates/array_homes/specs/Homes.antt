-- What a home says of its array.
use Rattle.std.specs.Prelude.{◌≡◌, ℕ, List, length, Option, Some, None}
use Rattle.cells.specs.Shapes.{IsShape}
use Rattle.history.specs.declared.Form.{Form}
use Rattle.history.specs.Metadata.{shape_of, dtype_of, fill_of}
use Rattle.history.specs.References.{Reference}
use Rattle.history.specs.declared.array.ArrayInfo.{ArrayInfo}
use Rattle.history.specs.declared.array.Home.{Home}
use Rattle.history.specs.declared.array.Home.TheVariants.{Zarr, N5, Zarr3, Local}
use Rattle.history.specs.Arrays.{chunk_shape, is_local}
use Rattle.history.specs.Outcomes.{home_of}

-- the mount of a stored array
abbrev pub mount_of : Home → Option (List ℕ)
mount_of (Zarr mount path meta) = Some mount
mount_of (N5 mount path meta) = Some mount
mount_of (Zarr3 mount path meta) = Some mount
mount_of (Local start) = None

-- a stored array may have this shape
abbrev pub MayHaveShape : Home → List ℕ → Type 0
MayHaveShape (Zarr mount path meta) shape = IsShape shape × (length shape ≡ length meta.chunks)
MayHaveShape (N5 mount path meta) shape = IsShape shape × (length shape ≡ length meta.block)
MayHaveShape (Zarr3 mount path meta) shape = IsShape shape × (length shape ≡ length meta.chunks)
MayHaveShape (Local start) shape = Unit {0}

-- the array that is opened at a place with this metadata
abbrev pub info_at : ℕ → List ℕ → List ℕ → Form → ArrayInfo
info_at number mount path meta = record {
  number = number;
  home = home_of mount path meta;
  dtype = dtype_of meta;
  shape = shape_of meta;
  fill = fill_of meta;
}

-- how views name an array while it has this shape
abbrev pub reference_of : ArrayInfo → List ℕ → Reference
reference_of info shape = record { number = info.number; dtype = info.dtype; shape = shape; chunk = chunk_shape info; local = is_local info.home }
