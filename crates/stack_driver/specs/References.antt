-- How a view names the array whose cells it shows.
use Rattle.std.specs.Prelude.{◌≡◌, ℕ, List, length, map, max, Bool, IsTrue}
use Rattle.cast_driver.specs.Shapes.{IsShape, IsChunkShape}
use Rattle.cast_driver.specs.declared.Dtype.{Dtype}

-- what a contract sees of a reference: the array's number, its dtype, its shape as the view knows it, the shape of its chunks,
-- and whether the run holds it and no store
pub record Reference : Type 0 where
  pub number : ℕ
  pub dtype : Dtype
  pub shape : List ℕ
  pub chunk : List ℕ
  pub local : Bool

-- a shape and a chunk shape of the same rank; a local array is one chunk, in which a size of 0 counts as 1
pub record IsReference (r : Reference) : Type 0 where
  pub shape : IsShape r.shape
  pub chunk : IsChunkShape r.chunk
  pub ranks : length r.chunk ≡ length r.shape
  pub whole : IsTrue r.local → r.chunk ≡ map (max 1) r.shape
