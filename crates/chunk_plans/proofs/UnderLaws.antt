-- What stands under the words that are staged for a chunk.
use Rattle.std.proofs.Common.{◌≡◌, ◌∙◌, ℕ, List, length, Bool, true, false, not, Option, Some, refl, sym, ap, subst}
use Rattle.std.specs.Prelude.{IfSome}
use Rattle.cells.specs.Places.{cell_count}
use Rattle.chunk_cache.specs.Snapshot.{SnapshotCells}
use Rattle.chunk_forms.specs.declared.form.Form.{Form}
use Rattle.chunk_forms.specs.Metadata as meta
use Rattle.chunk_forms.specs.Metadata.{chunk_shape_of, dtype_of, shape_of, with_shape}
use Rattle.chunk_laying.specs.Laid.{IsChunkOf, IsCovered}
use Rattle.chunk_plans.proofs.Kept.{chunk_told, shape_told}
use Rattle.chunk_plans.proofs.Forms.{dtype_told, kept_as, valid_chunks, valid_ranks}
use Rattle.history.specs.Arrays.{Known, chunk_shape, chunk_shape_in, form_of, is_local, known_after}
use Rattle.history.specs.History.{History}
use Rattle.history.specs.Resizes.{reaches_into}
use Rattle.history.specs.Snapshots.{box_in}
use Rattle.history.specs.declared.array.Home.{Home}
use Rattle.history.specs.declared.array.Home.TheVariants.{Zarr, N5, Zarr3, Local}
use Rattle.history.proofs.Laws.{some_inj}
use Rattle.rebase_writes.specs.Staged.{AreWords}
use Rattle.shared_state.specs.Agreement.{Agrees, IsState, Opening}
use Rattle.shared_state.specs.Fetches.{IsAnswered}
use Rattle.shared_state.specs.Log.{Log}
use Rattle.shared_state.specs.Seen.{StoreSeen}
use Rattle.shared_state.proofs.Laws.{form_fill, good_in}
use Rattle.chunk_plans.specs.Asking.{IsAsked, IsPart, IsUnderAt, chunk_of_part}
use Rattle.chunk_plans.specs.Laying.{MayLay, MayReady}
use Rattle.chunk_plans.specs.declared.asked.Asked.{Asked}
use Rattle.chunk_plans.specs.declared.asked.Part.{Part}
use Rattle.chunk_plans.specs.declared.asked.Under.{Under}
use Rattle.chunk_plans.specs.declared.asked.Under.TheVariants.{Covered, Kept, Unknown}

ready_at : (opening : Opening) (events : History) (k : Known) (p : Part) (form : Form) (u : Under) → IsUnderAt opening events k p form u → MayReady form p.chunk.now p.staged.now u
ready_at opening events k p form Covered under = under.0
ready_at opening events k p form (Kept s) under = (under.0, under.1)
ready_at opening events k p form Unknown under = tt

-- what was told of a chunk is what preparing its bytes asks
pub may_ready : (opening : Opening) (events : History) (a : Asked) → IsAsked opening events a → MayReady a.form a.part.chunk.now a.part.staged.now a.under
may_ready opening events a asked = ready_at opening events asked.array a.part a.form a.under asked.under

local_told : (home : Home) (s : List ℕ) → meta.is_local (with_shape (form_of home) s) ≡ is_local home
local_told (Zarr mount path m) s = refl
local_told (N5 mount path m) s = refl
local_told (Zarr3 mount path m) s = refl
local_told (Local start) s = refl

-- a stored chunk is as large as the array's chunks
box_told : (home : Home) (shape : List ℕ) → is_local home ≡ false → box_in home shape ≡ chunk_shape_in home shape
box_told (Zarr mount path m) shape stored = refl
box_told (N5 mount path m) shape stored = refl
box_told (Zarr3 mount path m) shape stored = refl
box_told (Local start) shape stored = absurd (cc)

-- a chunk by other names of its shapes
pub chunk_named : (s n i shape chunk : List ℕ) → s ≡ shape → n ≡ chunk → IsChunkOf shape chunk i → IsChunkOf s n i
chunk_named s n i shape chunk same_shape same_chunk is = subst (λ t. IsChunkOf t n i) (sym same_shape) (subst (λ t. IsChunkOf shape t i) (sym same_chunk) is)

-- words that are staged for a chunk of a stored array, by the form that the state tells
module _ {store : StoreSeen} {log : Log} (p : Part) (form : Form) (state : IsState store log) (part : IsPart log.events p)
    (told : (k : Known) → known_after log.events p.array ≡ Some k → form ≡ with_shape (form_of k.info.home) k.shape) (stored : meta.is_local form ≡ false) where
  abbrev k : Known
  k = part.0

  form_is : form ≡ with_shape (form_of k.info.home) k.shape
  form_is = told k part.1.known

  in_store : is_local k.info.home ≡ false
  in_store = sym (local_told k.info.home k.shape) ∙ ap meta.is_local (sym form_is) ∙ stored

  shapes : shape_of form ≡ k.shape
  shapes = ap shape_of form_is ∙ shape_told k.info.home k.shape in_store

  chunks : chunk_shape_of form ≡ chunk_shape k.info
  chunks = ap chunk_shape_of form_is ∙ chunk_told k.info.home k.info.shape k.shape in_store

  dtypes : dtype_of form ≡ k.info.dtype
  dtypes = ap dtype_of form_is ∙ dtype_told k.info k.info.home k.shape (kept_as store log p.array k state part.1.known) in_store

  whole_chunk : IsChunkOf k.shape (chunk_shape k.info) p.chunk.now
  whole_chunk =
      let good = good_in log.events state.1.outline p.array k part.1.known in
      record {
        chunks = valid_chunks k.info k.info.home good.kept in_store;
        shape_rank = good.rank ∙ sym (valid_ranks k.info k.info.home good.kept in_store);
        chunk_rank = part.1.valid.rank;
        starts = part.1.valid.starts;
      }

  pub chunk_is : IsChunkOf (shape_of form) (chunk_shape_of form) p.chunk.now
  chunk_is = chunk_named (shape_of form) (chunk_shape_of form) p.chunk.now k.shape (chunk_shape k.info) shapes chunks whole_chunk

  pub size_is : length p.staged.now ≡ cell_count (chunk_shape_of form)
  size_is = part.1.size ∙ ap cell_count (sym chunks)

  pub may_lay : reaches_into (chunk_shape_of form) (shape_of form) p.chunk.now ≡ true → MayLay form p.chunk.now p.staged.now
  may_lay reached = record {
    stored = stored;
    fill = form_fill store log p.array k form state part.1.known in_store form_is;
    chunk_of = chunk_is;
    reached = reached;
    size = size_is;
    words = subst (λ d. AreWords d p.staged.now) (sym dtypes) part.1.words;
  }

  -- the words cover the chunk, or this is the chunk as it is kept
  pub under_covered : (opening : Opening) (l : Known) → known_after log.events p.array ≡ Some l → reaches_into (chunk_shape_of form) (shape_of form) p.chunk.now ≡ true
      → IsCovered (shape_of form) (chunk_shape_of form) p.chunk.now p.staged.now → IsUnderAt opening log.events l p form Covered
  under_covered opening l is reached covered =
      let same : k ≡ l = some_inj k l (sym part.1.known ∙ is) in
      (may_lay reached, subst (λ m. IsCovered m.shape (chunk_shape m.info) p.chunk.now p.staged.now) same (subst (λ s. IsCovered s (chunk_shape k.info) p.chunk.now p.staged.now) shapes (subst (λ n. IsCovered (shape_of form) n p.chunk.now p.staged.now) chunks covered)))

  pub under_kept : (opening : Opening) (l : Known) (s : SnapshotCells) → Agrees opening store log → known_after log.events p.array ≡ Some l → reaches_into (chunk_shape_of form) (shape_of form) p.chunk.now ≡ true
      → IsAnswered store log (chunk_of_part p) s → IsUnderAt opening log.events l p form (Kept s)
  under_kept opening l s agrees is reached answered =
      let cells = answered.cells k part.1.known in (
        may_lay reached,
        (cells.dtype ∙ sym dtypes, cells.shape ∙ box_told k.info.home k.info.shape in_store ∙ sym chunks),
        λ start contents. answered.now opening start l agrees contents is,
      )

not_false : (b : Bool) → not b ≡ false → b ≡ true
not_false true is = refl
not_false false is = absurd (cc)

-- a chunk that isn't gone has a cell in the shape
pub reached_from : (s n i : List ℕ) (form : Form) (gone : Bool) → s ≡ shape_of form → n ≡ chunk_shape_of form → gone ≡ not (reaches_into n s i) → gone ≡ false → reaches_into (chunk_shape_of form) (shape_of form) i ≡ true
reached_from s n i form gone same_shape same_chunk is isnt =
    ap (λ t. reaches_into (chunk_shape_of form) t i) (sym same_shape) ∙ ap (λ t. reaches_into t s i) (sym same_chunk) ∙ not_false (reaches_into n s i) (sym is ∙ isnt)

pub covered_named : (s n i : List ℕ) (form : Form) (staged : List (Option ℕ)) → s ≡ shape_of form → n ≡ chunk_shape_of form → IsCovered s n i staged → IsCovered (shape_of form) (chunk_shape_of form) i staged
covered_named s n i form staged same_shape same_chunk covered = subst (λ t. IsCovered t (chunk_shape_of form) i staged) same_shape (subst (λ t. IsCovered s t i staged) same_chunk covered)

pub some_holds : {A : Type 0} (P : A → Type 0) (o : Option A) (x : A) → o ≡ Some x → IfSome o P → P x
some_holds P o x is holds = subst (λ p. IfSome p P) is holds
