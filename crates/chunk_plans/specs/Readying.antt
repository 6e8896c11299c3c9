-- Bytes that are prepared of a chunk.
use Rattle.std.specs.Prelude.{◌≡◌, ℕ, Bool, true, false, Option, Some, None}
use Rattle.cells.specs.Dense.{DenseCells}
use Rattle.chunk_plans.specs.Left.{IsLeftAs}
use Rattle.chunk_plans.specs.declared.write.ChunkWrite.{ChunkWrite}
use Rattle.chunk_plans.specs.declared.write.Ready.{Ready}
use Rattle.chunk_plans.specs.declared.asked.Asked.{Asked}
use Rattle.chunk_plans.specs.declared.asked.Under.{Under}
use Rattle.chunk_plans.specs.declared.asked.Under.TheVariants.{Covered, Kept, Unknown}

-- the generation of the cells under the words
abbrev pub generation_under : Under → Option ℕ
generation_under Covered = None
generation_under (Kept s) = Some s.generation
generation_under Unknown = None

-- the cells under the words
abbrev pub cells_under : Under → Option DenseCells
cells_under Covered = None
cells_under (Kept s) = Some s.cells
cells_under Unknown = None

-- it is known what stands under the words
abbrev pub is_told : Under → Bool
is_told Covered = true
is_told (Kept s) = true
is_told Unknown = false

-- cells and bytes are prepared exactly where it is known what stands under the words, and are what these leave over it
abbrev pub IsReadyOf : Asked → Option Ready → Type 0
IsReadyOf a None = is_told a.under ≡ false
IsReadyOf a (Some r) =
    (is_told a.under ≡ true) × (r.generation ≡ generation_under a.under) × (r.resized ≡ a.resized) × IsLeftAs a.form a.part.chunk.now a.part.staged.now (cells_under a.under) r.cells r.bytes

-- the words that are staged for the chunk, with such bytes
pub record IsWriteFor (a : Asked) (w : ChunkWrite) : Type 0 where
  pub array : w.array ≡ a.part.array
  pub chunk : w.chunk.now ≡ a.part.chunk.now
  pub key : w.key ≡ a.key
  pub staged : w.staged.now ≡ a.part.staged.now
  pub ready : IsReadyOf a w.ready
