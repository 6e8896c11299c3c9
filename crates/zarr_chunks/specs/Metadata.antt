-- What the metadata of an array says, and its rules.
use Rattle.std.specs.Prelude.{◌≡◌, ℕ, Bool, false, List, length, Option}
use Rattle.std.specs.Option.{ForSome}
use Rattle.chunk_elements.specs.Bytes.{byte_count}
use Rattle.chunk_elements.specs.Numbers.{IsWord}
use Rattle.chunk_elements.specs.Shapes.{IsShape, IsChunkShape}
use Rattle.chunk_elements.specs.declared.Dtype.{Dtype}
use Rattle.chunk_elements.specs.declared.Order.{Order}

-- an array's shape and its chunks' shape in cells, what an element is, and how elements and keys are written: `big`
-- for the highest byte first, `fill` the word of a cell that is in no chunk, `slash` for "/" in keys and not "."
pub record Metadata : Type 0 where
  pub shape : List ℕ
  pub chunks : List ℕ
  pub dtype : Dtype
  pub big : Bool
  pub fill : Option ℕ
  pub order : Order
  pub slash : Bool

-- the rules of metadata; an element of one byte has no byte order, so that `big` is false there
pub record IsMetadata (m : Metadata) : Type 0 where
  pub shape : IsShape m.shape
  pub ranks : length m.chunks ≡ length m.shape
  pub chunks : IsChunkShape m.chunks
  pub fill : ForSome m.fill (IsWord m.dtype)
  pub one_byte : byte_count m.dtype ≡ 1 → m.big ≡ false
