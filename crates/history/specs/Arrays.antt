-- The arrays of a history.
use Rattle.std.specs.Prelude.{ℕ, ◌+◌, List, length, map, max, Bool, true, false, ◌==◌, Option, Some, None, if◌then◌else◌}
use Rattle.stack_driver.specs.References.{Reference}
use Rattle.chunk_forms.specs.declared.form.Form.{Form}
use Rattle.chunk_forms.specs.declared.form.Form.TheVariants as form
use Rattle.history.specs.declared.array.ArrayInfo.{ArrayInfo}
use Rattle.history.specs.declared.array.Home.{Home}
use Rattle.history.specs.declared.array.Home.TheVariants.{Zarr, N5, Zarr3, Local}
use Rattle.history.specs.declared.event.Kind.{Kind}
use Rattle.history.specs.declared.event.Kind.TheVariants.{Opened, Done, Resized, Fault}
use Rattle.history.specs.History.{History, after}

-- how an array's chunks are stored
abbrev pub form_of : Home → Form
form_of (Zarr mount path meta) = form.Zarr meta
form_of (N5 mount path meta) = form.N5 meta
form_of (Zarr3 mount path meta) = form.Zarr3 meta
form_of (Local start) = form.Local

-- the run holds the array, and no store
abbrev pub is_local : Home → Bool
is_local (Zarr mount path meta) = false
is_local (N5 mount path meta) = false
is_local (Zarr3 mount path meta) = false
is_local (Local start) = true

-- an array of the run: as it was opened, the number of the event that opened it, and its present shape
pub record Known : Type 0 where
  pub info : ArrayInfo
  pub opened : ℕ
  pub shape : List ℕ

-- an array of the run with another present shape
abbrev pub known_reshaped : List ℕ → Option Known → Option Known
known_reshaped shape None = None
known_reshaped shape (Some k) = Some (record k { shape = shape })

-- the array of this number after one event more
abbrev pub known_step : ℕ → History → Kind → Option Known → Option Known
known_step a before (Opened info) known = if info.number == a then Some (record { info = info; opened = length before + 1; shape = info.shape }) else known
known_step a before (Done line mode ops key) known = known
known_step a before (Resized b shape) known = if b == a then known_reshaped shape known else known
known_step a before (Fault mount) known = known

-- the array with this number after a history
abbrev pub known_after : History → ℕ → Option Known
known_after events a = after (λ before e known. known_step a before e.kind known) None events

-- the shape of an array's chunks: a local array is one chunk, in which a size of 0 counts as 1
abbrev pub chunk_shape_in : Home → List ℕ → List ℕ
chunk_shape_in (Zarr mount path meta) shape = meta.chunks
chunk_shape_in (N5 mount path meta) shape = meta.block
chunk_shape_in (Zarr3 mount path meta) shape = meta.chunks
chunk_shape_in (Local start) shape = map (max 1) shape

-- the shape of the chunks of an array as it was opened
abbrev pub chunk_shape : ArrayInfo → List ℕ
chunk_shape info = chunk_shape_in info.home info.shape

-- how views name an array that has its present shape
abbrev pub ref_of : Known → Reference
ref_of k = record { number = k.info.number; dtype = k.info.dtype; shape = k.shape; chunk = chunk_shape k.info; local = is_local k.info.home }
