-- Indices of chunks, by where an array is kept.
use Rattle.std.specs.Prelude.{◌≡◌, ℕ, List, length}
use Rattle.std.specs.List.{AllByRecursion}
use Rattle.history.specs.declared.array.Home.{Home}
use Rattle.history.specs.declared.array.Home.TheVariants.{Zarr, N5, Zarr3, Local}
use Rattle.history.specs.Chunks.{AreStarts}

-- the index is one of a chunk of an array of this home and shape; a local array has the one at the origin
abbrev pub IsIndexIn : Home → List ℕ → List ℕ → Type 0
IsIndexIn (Zarr mount path meta) shape index = (length index ≡ length meta.chunks) × AreStarts meta.chunks index
IsIndexIn (N5 mount path meta) shape index = (length index ≡ length meta.block) × AreStarts meta.block index
IsIndexIn (Zarr3 mount path meta) shape index = (length index ≡ length meta.chunks) × AreStarts meta.chunks index
IsIndexIn (Local start) shape index = (length index ≡ length shape) × AllByRecursion (λ c. c ≡ 0) index
