-- What is asked of an array's metadata, and its rules.
use Rattle.std.specs.Prelude.{◌≡◌, ◌≤◌, ℕ, Bool, true, List, length, Option, Some}
use Rattle.chunk_elements.specs.Bytes.{byte_count}
use Rattle.chunk_elements.specs.Numbers.{IsWord}
use Rattle.chunk_elements.specs.Shapes.{IsShape, IsChunkShape}
use Rattle.chunk_elements.specs.declared.Dtype.{Dtype}
use Rattle.chunk_elements.specs.declared.Order.{Order}

-- what is asked; what is None isn't asked, and a fill may be asked to be null
pub record Want : Type 0 where
  pub shape : Option (List ℕ)
  pub chunks : Option (List ℕ)
  pub dtype : Option Dtype
  pub big : Option Bool
  pub fill : Option (Option ℕ)
  pub order : Option Order
  pub slash : Option Bool

-- each part that is asked keeps the rules of metadata, by itself and beside the others
pub record IsWant (w : Want) : Type 0 where
  pub shape : (shape : List ℕ) → w.shape ≡ Some shape → IsShape shape
  pub chunks : (chunks : List ℕ) → w.chunks ≡ Some chunks → IsChunkShape chunks × (length chunks ≤ 32)
  pub ranks : (shape chunks : List ℕ) → w.shape ≡ Some shape → w.chunks ≡ Some chunks → length chunks ≡ length shape
  pub fill : (dtype : Dtype) (word : ℕ) → w.dtype ≡ Some dtype → w.fill ≡ Some (Some word) → IsWord dtype word
  pub one_byte : (dtype : Dtype) → w.dtype ≡ Some dtype → byte_count dtype ≡ 1 → ¬ (w.big ≡ Some true)
