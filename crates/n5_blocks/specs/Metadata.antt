-- What the metadata of an array says, and its rules.
use Rattle.std.specs.Prelude.{◌≡◌, ℕ, ◌≤◌, List, length}
use Rattle.chunk_elements.specs.Shapes.{IsShape, IsChunkShape}
use Rattle.chunk_elements.specs.declared.Dtype.{Dtype}

-- an array's sizes and its blocks' sizes in cells, and what an element is
pub record Metadata : Type 0 where
  pub dimensions : List ℕ
  pub block : List ℕ
  pub dtype : Dtype

-- the rules of metadata; there is a dimension
pub record IsMetadata (m : Metadata) : Type 0 where
  pub dimensions : IsShape m.dimensions
  pub some : 1 ≤ length m.dimensions
  pub ranks : length m.block ≡ length m.dimensions
  pub block : IsChunkShape m.block
