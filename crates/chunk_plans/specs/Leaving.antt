-- What a commit may leave of a chunk.
use Rattle.std.specs.Prelude.{◌≡◌, ℕ, true, false}
use Rattle.std.specs.Option.{ForSome}
use Rattle.cells.specs.Dense.{DenseCells}
use Rattle.chunk_forms.specs.declared.form.Form.{Form}
use Rattle.chunk_forms.specs.Metadata.{chunk_shape_of, dtype_of}
use Rattle.history.specs.Arrays.{Known, is_local}
use Rattle.history.specs.Chunks.{Chunk}
use Rattle.history.specs.Snapshots.{chunk_box}
use Rattle.shared_state.specs.Kept.{AreCellsOf}
use Rattle.chunk_plans.specs.declared.plan.Left.{Left}
use Rattle.chunk_plans.specs.declared.plan.Left.TheVariants.{Stored, Held}
use Rattle.chunk_plans.specs.declared.write.Ready.{Ready}

-- cells of the dtype and the chunk shape of a form
pub record AreOfForm (form : Form) (cells : DenseCells) : Type 0 where
  pub dtype : cells.dtype ≡ dtype_of form
  pub shape : cells.shape ≡ chunk_shape_of form

-- cells of the dtype and the shape of an array's chunks
pub record AreCellsIn (k : Known) (cells : DenseCells) : Type 0 where
  pub dtype : cells.dtype ≡ k.info.dtype
  pub shape : cells.shape ≡ chunk_box k.info

-- of a stored chunk bytes are left, and its cells where they may be kept; of a local array cells
abbrev pub IsLeftOf : Known → Chunk → Left → Type 0
IsLeftOf k c (Stored bytes kept) = (is_local k.info.home ≡ false) × ForSome kept (AreCellsIn k)
IsLeftOf k c (Held a cells) = (is_local k.info.home ≡ true) × (a ≡ c.array) × AreCellsOf k cells

-- cells that are left of a local array's chunk have this number as generation
abbrev pub HasNumber : ℕ → Left → Type 0
HasNumber number (Stored bytes kept) = Unit {0}
HasNumber number (Held a cells) = cells.generation ≡ number

-- what was prepared is left, with its cells where they are of the form
abbrev pub IsLeftReady : Form → Ready → Left → Type 0
IsLeftReady form ready (Stored bytes kept) = (bytes ≡ ready.bytes) × ForSome kept (λ d. (d ≡ ready.cells) × AreOfForm form d)
IsLeftReady form ready (Held a cells) = ⊥
