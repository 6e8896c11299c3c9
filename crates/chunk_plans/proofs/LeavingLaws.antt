-- What a plan of a stored chunk leaves is the chunk's.
use Rattle.std.proofs.Common.{◌≡◌, ℕ, List, true, false, Option, Some, None, refl, sym, ap, subst, ◌∙◌}
use Rattle.std.specs.Prelude.{IsSome}
use Rattle.std.specs.Option.{ForSome}
use Rattle.std.specs.Str.{bytes_eq}
use Rattle.std.proofs.lemmas.Slice.Eq.{bytes_eq-Decides}
use Rattle.cells.specs.Dense.{DenseCells}
use Rattle.cells.specs.DtypeNames.{dtype_name, dtype_named}
use Rattle.cells.specs.declared.dtype.Dtype.{Dtype}
use Rattle.cells.proofs.Laws.{dtype_named-dtype_name}
use Rattle.kv_face.specs.Store.{Contents}
use Rattle.chunk_forms.specs.declared.form.Form.{Form}
use Rattle.chunk_forms.specs.Metadata.{chunk_shape_of, dtype_of, with_shape}
use Rattle.history.specs.declared.array.Home.{Home}
use Rattle.history.specs.declared.array.Home.TheVariants.{Zarr, N5, Zarr3, Local}
use Rattle.history.specs.Arrays.{Known, known_after, form_of, is_local, chunk_shape_in}
use Rattle.history.specs.History.{History}
use Rattle.history.specs.Snapshots.{box_in}
use Rattle.history.proofs.Laws.{some_inj}
use Rattle.shared_state.specs.Agreement.{IsState}
use Rattle.shared_state.specs.Log.{Log}
use Rattle.shared_state.specs.Seen.{StoreSeen}
use Rattle.chunk_plans.specs.declared.plan.Left.{Left}
use Rattle.chunk_plans.specs.declared.plan.Left.TheVariants.{Stored, Held}
use Rattle.chunk_plans.specs.declared.write.ChunkWrite.{ChunkWrite}
use Rattle.chunk_plans.specs.declared.write.Ready.{Ready}
use Rattle.chunk_plans.specs.Leaving.{HasNumber, AreCellsIn, AreOfForm, IsLeftOf, IsLeftReady}
use Rattle.chunk_plans.specs.Under.{IsLeftNow}
use Rattle.chunk_plans.specs.Writes.{IsPlanOf, IsReadyBy, IsReadyWrite, chunk_of_write, may_use}
use Rattle.chunk_plans.proofs.Forms.{dtype_told, kept_as}
use Rattle.chunk_plans.proofs.Kept.{chunk_told}

-- a dtype is told by its name
pub same_dtypes : (a b : Dtype) → bytes_eq (dtype_name a) (dtype_name b) ≡ true → a ≡ b
same_dtypes a b is = some_inj a b (sym (dtype_named-dtype_name a) ∙ ap dtype_named ((bytes_eq-Decides (dtype_name a) (dtype_name b)).0 is) ∙ dtype_named-dtype_name b)

box_told : (home : Home) (shape : List ℕ) → is_local home ≡ false → box_in home shape ≡ chunk_shape_in home shape
box_told (Zarr mount path m) shape stored = refl
box_told (N5 mount path m) shape stored = refl
box_told (Zarr3 mount path m) shape stored = refl
box_told (Local start) shape stored = absurd (cc)

pub some_there : {A : Type 0} (o : Option A) → IsSome o → (x : A) × (o ≡ Some x)
some_there None some = absurd (cc)
some_there (Some x) some = (x, refl)

module _ {store : StoreSeen} {log : Log} (w : ChunkWrite) (k : Known) (form : Form) (state : IsState store log) (known : known_after log.events w.array ≡ Some k) (told : (is_local k.info.home ≡ false) × (form ≡ with_shape (form_of k.info.home) k.shape)) where
  -- cells of the form are cells of the array
  of_form : (d : DenseCells) → AreOfForm form d → AreCellsIn k d
  of_form d is = record {
    dtype = is.dtype ∙ ap dtype_of told.1 ∙ dtype_told k.info k.info.home k.shape (kept_as store log w.array k state known) told.0;
    shape = is.shape ∙ ap chunk_shape_of told.1 ∙ chunk_told k.info.home k.info.shape k.shape told.0 ∙ sym (box_told k.info.home k.info.shape told.0);
  }

  -- what was worked out now
  pub now_left : (left : Left) (cells : DenseCells) (bytes : Option (List ℕ)) → left ≡ Stored bytes (Some cells) → AreOfForm form cells → IsLeftOf k (chunk_of_write w) left
  now_left left cells bytes is of = subst (IsLeftOf k (chunk_of_write w)) (sym is) (told.0, λ d same. subst (AreCellsIn k) (some_inj cells d same) (of_form cells of))

  -- what was prepared
  ready_left_by : (left : Left) (r : Ready) → IsLeftReady form r left → IsLeftOf k (chunk_of_write w) left
  ready_left_by (Stored bytes kept) r ready = (told.0, λ d same. of_form d (ready.1 d same).1)
  ready_left_by (Held a cells) r ready = absurd ready

  pub ready_left : (left : Left) → IsSome w.ready → ForSome w.ready (λ r. IsLeftReady form r left) → IsLeftOf k (chunk_of_write w) left
  ready_left left some ready = let there = some_there w.ready some in ready_left_by left there.0 (ready there.0 there.1)

-- bytes that were prepared are a stored chunk's
ready_numbered_by : (number : ℕ) (form : Form) (left : Left) (r : Ready) → IsLeftReady form r left → HasNumber number left
ready_numbered_by number form (Stored bytes kept) r ready = tt
ready_numbered_by number form (Held a cells) r ready = absurd ready

pub ready_numbered : (number : ℕ) (w : ChunkWrite) (form : Form) (left : Left) → IsSome w.ready → ForSome w.ready (λ r. IsLeftReady form r left) → HasNumber number left
ready_numbered number w form left some ready = let there = some_there w.ready some in ready_numbered_by number form left there.0 (ready there.0 there.1)

-- a plan of what was worked out now
pub now_plan : (start : Contents) (events : History) (number : ℕ) (k : Known) (w : ChunkWrite) (left : Left) (cells : DenseCells) (bytes : Option (List ℕ)) → left ≡ Stored bytes (Some cells) → IsLeftNow start events k (chunk_of_write w) w.staged.now cells bytes → IsPlanOf start events number k w left
now_plan start events number k w left cells bytes is now = subst (IsPlanOf start events number k w) (sym is) (cells, now, λ d same. sym (some_inj cells d same))

-- a plan of what was prepared
ready_plan_by : (start : Contents) (events : History) (number : ℕ) (k : Known) (w : ChunkWrite) (form : Form) (left : Left) (r : Ready) → IsLeftReady form r left → IsLeftNow start events k (chunk_of_write w) w.staged.now r.cells r.bytes → IsPlanOf start events number k w left
ready_plan_by start events number k w form (Stored bytes kept) r ready now = (
  r.cells,
  subst (λ (b : Option (List ℕ)). IsLeftNow start events k (chunk_of_write w) w.staged.now r.cells b) (sym ready.0) now,
  λ d same. (ready.1 d same).0,
)
ready_plan_by start events number k w form (Held a cells) r ready now = absurd ready

pub ready_plan : (start : Contents) (log : Log) (number : ℕ) (k : Known) (w : ChunkWrite) (form : Form) (left : Left) → IsSome w.ready → ForSome w.ready (λ r. IsLeftReady form r left) → may_use log k w ≡ true → IsReadyWrite start log k w → IsPlanOf start log.events number k w left
ready_plan start log number k w form left some ready may right =
    let there = some_there w.ready some in
    ready_plan_by start log.events number k w form left there.0 (ready there.0 there.1) (subst (IsReadyBy start log.events k w) there.1 (right may))
