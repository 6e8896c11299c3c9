-- What a commit leaves of a chunk, by what the chunk is.
use Rattle.std.specs.Prelude.{◌≡◌, ℕ, List, Option, Some, None, unwrap_or}
use Rattle.cells.specs.Dense.{DenseCells}
use Rattle.cells.specs.Elements.{word_at}
use Rattle.cells.specs.Places.{IsInside, c_place}
use Rattle.kv_face.specs.Store.{Contents}
use Rattle.chunk_forms.specs.Metadata.{with_shape}
use Rattle.history.specs.History.{History}
use Rattle.history.specs.Arrays.{Known, form_of, chunk_shape}
use Rattle.history.specs.Chunks.{Chunk}
use Rattle.history.specs.Snapshots.{IsSnapshotOf, chunk_box}
use Rattle.rebase_writes.specs.Staged.{staged_at}
use Rattle.chunk_laying.specs.Laid.{IsCovered}
use Rattle.chunk_plans.specs.Left.{IsLeftAs}

-- what stands under staged words: the chunk as it is, or nothing where every cell in the array's shape is staged
abbrev pub IsUnder : Contents → History → Known → Chunk → List (Option ℕ) → Option DenseCells → Type 0
IsUnder start events k c staged None = IsCovered k.shape (chunk_shape k.info) c.index staged
IsUnder start events k c staged (Some base) = (generation : ℕ) × IsSnapshotOf start events k c generation (word_at base)

-- the cells of a stored chunk with the staged words over the chunk as it is, and their bytes
pub record IsLeftNow (start : Contents) (events : History) (k : Known) (c : Chunk) (staged : List (Option ℕ)) (cells : DenseCells) (bytes : Option (List ℕ)) : Type 0 where
  pub base : Option DenseCells
  pub under : IsUnder start events k c staged base
  pub left : IsLeftAs (with_shape (form_of k.info.home) k.shape) c.index staged base cells bytes

-- cells of a local array: the staged words over those that it has
pub record IsHeldOver (start : Contents) (events : History) (k : Known) (c : Chunk) (staged : List (Option ℕ)) (cells : DenseCells) : Type 0 where
  pub base : DenseCells
  pub generation : ℕ
  pub snapshot : IsSnapshotOf start events k c generation (word_at base)
  pub words : (at : List ℕ) → IsInside (chunk_box k.info) at → word_at cells at ≡ unwrap_or (staged_at staged (c_place (chunk_box k.info) at)) (word_at base at)
