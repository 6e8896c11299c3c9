-- What is staged for a stored chunk may be laid over it.
use Rattle.std.proofs.Common.{◌≡◌, ℕ, List, length, true, false, Some, refl, sym, ap, subst, ◌∙◌}
use Rattle.cells.specs.Numbers.{IsWord}
use Rattle.cells.specs.Places.{cell_count}
use Rattle.cells.specs.Shapes.{IsChunkShape}
use Rattle.chunk_forms.specs.declared.form.Form.{Form}
use Rattle.chunk_forms.specs.Metadata as meta
use Rattle.chunk_forms.specs.Metadata.{shape_of, chunk_shape_of, dtype_of, fill_of, with_shape}
use Rattle.history.specs.declared.array.ArrayInfo.{ArrayInfo}
use Rattle.history.specs.declared.array.Home.{Home}
use Rattle.history.specs.declared.array.Home.TheVariants.{Zarr, N5, Zarr3, Local}
use Rattle.history.specs.Arrays.{Known, known_after, form_of, is_local, chunk_shape, chunk_shape_in}
use Rattle.history.specs.Chunks.{IsIndexOf, chunk_key}
use Rattle.history.specs.Legal.{IsAsKept}
use Rattle.history.specs.Resizes.{reaches_into}
use Rattle.history.proofs.Laws.{IsGood}
use Rattle.rebase_writes.specs.Staged.{AreWords}
use Rattle.chunk_laying.specs.Laid.{IsChunkOf}
use Rattle.shared_state.specs.Agreement.{IsState}
use Rattle.shared_state.specs.Log.{Log}
use Rattle.shared_state.specs.Seen.{StoreSeen}
use Rattle.shared_state.proofs.Laws.{form_stored, form_fill, good_in}
use Rattle.chunk_plans.specs.declared.write.ChunkWrite.{ChunkWrite}
use Rattle.chunk_plans.specs.Writes.{IsWriteOf, IsWrite}
use Rattle.chunk_plans.proofs.Kept.{shape_told, chunk_told}

-- what laying staged words asks
pub record MayLay (f : Form) (w : ChunkWrite) : Type 0 where
  pub stored : meta.is_local f ≡ false
  pub fill : IsWord (dtype_of f) (fill_of f)
  pub chunk : IsChunkOf (shape_of f) (chunk_shape_of f) w.chunk.now
  pub reached : reaches_into (chunk_shape_of f) (shape_of f) w.chunk.now ≡ true
  pub size : length w.staged.now ≡ cell_count (chunk_shape_of f)
  pub words : AreWords (dtype_of f) w.staged.now

-- a stored array's chunks have a shape that chunks may have, of its rank
pub valid_chunks : (info : ArrayInfo) (home : Home) → IsAsKept info home → is_local home ≡ false → IsChunkShape (chunk_shape_in home info.shape)
valid_chunks info (Zarr mount path m) kept stored = kept.valid.chunks
valid_chunks info (N5 mount path m) kept stored = kept.valid.block
valid_chunks info (Zarr3 mount path m) kept stored = kept.valid.chunks
valid_chunks info (Local start) kept stored = absurd (cc)

pub valid_ranks : (info : ArrayInfo) (home : Home) → IsAsKept info home → is_local home ≡ false → length (chunk_shape_in home info.shape) ≡ length info.shape
valid_ranks info (Zarr mount path m) kept stored = kept.valid.ranks ∙ ap length (sym kept.shape)
valid_ranks info (N5 mount path m) kept stored = kept.valid.ranks ∙ ap length (sym kept.shape)
valid_ranks info (Zarr3 mount path m) kept stored = kept.valid.ranks ∙ ap length (sym kept.shape)
valid_ranks info (Local start) kept stored = absurd (cc)

pub dtype_told : (info : ArrayInfo) (home : Home) (s : List ℕ) → IsAsKept info home → is_local home ≡ false → dtype_of (with_shape (form_of home) s) ≡ info.dtype
dtype_told info (Zarr mount path m) s kept stored = sym kept.dtype
dtype_told info (N5 mount path m) s kept stored = sym kept.dtype
dtype_told info (Zarr3 mount path m) s kept stored = sym kept.dtype
dtype_told info (Local start) s kept stored = absurd (cc)

-- an array of a state is as its metadata says
pub kept_as : (store : StoreSeen) (log : Log) (a : ℕ) (k : Known) → IsState store log → known_after log.events a ≡ Some k → IsAsKept k.info k.info.home
kept_as store log a k state known = (good_in log.events state.1.outline a k known).kept

module _ (store : StoreSeen) (log : Log) (w : ChunkWrite) (k : Known) (state : IsState store log) (is : IsWriteOf log.events w k) (stored : is_local k.info.home ≡ false) where
  abbrev f : Form
  f = with_shape (form_of k.info.home) k.shape

  good : IsGood w.array k
  good = good_in log.events state.1.outline w.array k is.known

  shapes : shape_of f ≡ k.shape
  shapes = shape_told k.info.home k.shape stored

  chunks : chunk_shape_of f ≡ chunk_shape k.info
  chunks = chunk_told k.info.home k.info.shape k.shape stored

  whole_chunk : IsChunkOf k.shape (chunk_shape k.info) w.chunk.now
  whole_chunk = record {
    chunks = valid_chunks k.info k.info.home good.kept stored;
    shape_rank = good.rank ∙ sym (valid_ranks k.info k.info.home good.kept stored);
    chunk_rank = is.valid.rank;
    starts = is.valid.starts;
  }

  may_lay_now : MayLay f w
  may_lay_now = record {
    stored = form_stored store log w.array k f state is.known stored refl;
    fill = form_fill store log w.array k f state is.known stored refl;
    chunk = subst (λ s. IsChunkOf s (chunk_shape_of f) w.chunk.now) (sym shapes) (subst (λ n. IsChunkOf k.shape n w.chunk.now) (sym chunks) whole_chunk);
    reached = ap (λ n. reaches_into n (shape_of f) w.chunk.now) chunks ∙ ap (λ s. reaches_into (chunk_shape k.info) s w.chunk.now) shapes ∙ is.reached;
    size = is.size ∙ ap cell_count (sym chunks);
    words = subst (λ d. AreWords d w.staged.now) (sym (dtype_told k.info k.info.home k.shape good.kept stored)) is.words;
  }

  pub may_lay : (form : Form) → form ≡ f → MayLay form w
  may_lay form same = subst (λ g. MayLay g w) (sym same) may_lay_now

-- the same by what a call asks
pub may_lay_by : {store : StoreSeen} {log : Log} (w : ChunkWrite) (form : Form) → IsState store log → (write : IsWrite log.events w)
    → ((k : Known) → known_after log.events w.array ≡ Some k → (is_local k.info.home ≡ false) × (form ≡ with_shape (form_of k.info.home) k.shape)) → MayLay form w
may_lay_by {store} {log} w form state write told = may_lay store log w write.0 state write.1 (told write.0 write.1.known).0 form (told write.0 write.1.known).1

local_told : (home : Home) (s : List ℕ) → meta.is_local (with_shape (form_of home) s) ≡ is_local home
local_told (Zarr mount path m) s = refl
local_told (N5 mount path m) s = refl
local_told (Zarr3 mount path m) s = refl
local_told (Local start) s = refl

-- words that are staged by an array's form, as a state tells it, are a write
pub write_by_form : {store : StoreSeen} {log : Log} (w : ChunkWrite) (k : Known) (form : Form) → IsState store log → known_after log.events w.array ≡ Some k → IsIndexOf k.info w.chunk.now → chunk_key k w.chunk.now ≡ w.key → meta.is_local form ≡ false
    → form ≡ with_shape (form_of k.info.home) k.shape → reaches_into (chunk_shape_of form) (shape_of form) w.chunk.now ≡ true → length w.staged.now ≡ cell_count (chunk_shape_of form) → AreWords (dtype_of form) w.staged.now → IsWrite log.events w
write_by_form {store} {log} w k form state known valid named kept same reached size words =
    let stored : is_local k.info.home ≡ false = sym (local_told k.info.home k.shape) ∙ ap meta.is_local (sym same) ∙ kept in
    let shapes : shape_of form ≡ k.shape = ap shape_of same ∙ shape_told k.info.home k.shape stored in
    let chunks : chunk_shape_of form ≡ chunk_shape k.info = ap chunk_shape_of same ∙ chunk_told k.info.home k.info.shape k.shape stored in
    let dtypes : dtype_of form ≡ k.info.dtype = ap dtype_of same ∙ dtype_told k.info k.info.home k.shape (kept_as store log w.array k state known) stored in (
      k,
      record {
        known = known;
        valid = valid;
        named = named;
        reached = ap (λ n. reaches_into n k.shape w.chunk.now) (sym chunks) ∙ ap (λ s. reaches_into (chunk_shape_of form) s w.chunk.now) (sym shapes) ∙ reached;
        size = size ∙ ap cell_count chunks;
        words = subst (λ d. AreWords d w.staged.now) dtypes words;
      },
    )
