-- Staged words that may be laid over a chunk outside of a turn.
use Rattle.std.specs.Prelude.{◌≡◌, ℕ, List, length, Option, true, false}
use Rattle.cells.specs.Numbers.{IsWord}
use Rattle.cells.specs.Places.{cell_count}
use Rattle.chunk_cache.specs.Snapshot.{SnapshotCells}
use Rattle.chunk_forms.specs.declared.form.Form.{Form}
use Rattle.chunk_forms.specs.Metadata as meta
use Rattle.chunk_forms.specs.Metadata.{shape_of, chunk_shape_of, dtype_of, fill_of}
use Rattle.history.specs.Resizes.{reaches_into}
use Rattle.rebase_writes.specs.Staged.{AreWords}
use Rattle.chunk_laying.specs.Laid.{IsChunkOf}
use Rattle.chunk_plans.specs.declared.asked.Under.{Under}
use Rattle.chunk_plans.specs.declared.asked.Under.TheVariants.{Covered, Kept, Unknown}

-- a stored chunk with a cell in the array's shape, and a word of its dtype or none for each of its cells
pub record MayLay (form : Form) (chunk : List ℕ) (staged : List (Option ℕ)) : Type 0 where
  pub stored : meta.is_local form ≡ false
  pub fill : IsWord (dtype_of form) (fill_of form)
  pub chunk_of : IsChunkOf (shape_of form) (chunk_shape_of form) chunk
  pub reached : reaches_into (chunk_shape_of form) (shape_of form) chunk ≡ true
  pub size : length staged ≡ cell_count (chunk_shape_of form)
  pub words : AreWords (dtype_of form) staged

-- cells of a chunk of this form
abbrev pub IsBaseFor : Form → SnapshotCells → Type 0
IsBaseFor form s = (s.cells.dtype ≡ dtype_of form) × (s.cells.shape ≡ chunk_shape_of form)

-- so it is wherever something stands under the words
abbrev pub MayReady : Form → List ℕ → List (Option ℕ) → Under → Type 0
MayReady form chunk staged Covered = MayLay form chunk staged
MayReady form chunk staged (Kept s) = MayLay form chunk staged × IsBaseFor form s
MayReady form chunk staged Unknown = Unit {0}
