-- What is asked of an array's metadata, and its rules.
use Rattle.std.specs.Prelude.{◌≡◌, ◌≤◌, ℕ, List, length, Option, Some}
use Rattle.chunk_elements.specs.Shapes.{IsShape, IsChunkShape}
use Rattle.chunk_elements.specs.declared.Dtype.{Dtype}

-- what is asked; what is None isn't asked
pub record Want : Type 0 where
  pub dimensions : Option (List ℕ)
  pub block : Option (List ℕ)
  pub dtype : Option Dtype

-- each part that is asked keeps the rules of metadata, by itself and beside the others
pub record IsWant (w : Want) : Type 0 where
  pub dimensions : (sizes : List ℕ) → w.dimensions ≡ Some sizes → IsShape sizes × (1 ≤ length sizes)
  pub block : (block : List ℕ) → w.block ≡ Some block → IsChunkShape block × (1 ≤ length block) × (length block ≤ 32)
  pub ranks : (sizes block : List ℕ) → w.dimensions ≡ Some sizes → w.block ≡ Some block → length block ≡ length sizes
