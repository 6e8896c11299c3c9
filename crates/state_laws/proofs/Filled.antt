-- A chunk that was decoded is the chunk.
use Rattle.std.proofs.Common.{◌≡◌, ℕ, List, false, Option, Some, None, refl, sym, ap, subst, ◌∙◌}
use Rattle.std.specs.Prelude.{unwrap_or}
use Rattle.std.specs.FinMap as finmap
use Rattle.std.specs.Option.{ForSome}
use Rattle.cells.specs.Elements.{word_at}
use Rattle.cells.specs.Numbers.{IsWord}
use Rattle.cells.specs.Places.{IsInside}
use Rattle.cells.specs.declared.dtype.Dtype.{Dtype}
use Rattle.cells.specs.declared.dtype.Dtype.TheVariants.{U8}
use Rattle.chunk_cache.specs.Snapshot.{SnapshotCells}
use Rattle.chunk_elements.proofs.Laws.{IsWord-zero}
use Rattle.history.specs.declared.Damage.{Damage}
use Rattle.history.specs.declared.Form.{Form}
use Rattle.history.specs.declared.Form.TheVariants as form
use Rattle.history.specs.Metadata.{chunk_shape_of, dtype_of, fill_of, with_shape, is_local, IsMetadata}
use Rattle.history.specs.Words.{stored_word, stored_fault}
use Rattle.kv_face.specs.Store.{Contents}
use Rattle.history.specs.Arrays as arrays
use Rattle.history.specs.Arrays.{Known, known_after, form_of}
use Rattle.history.specs.declared.array.Home.{Home}
use Rattle.history.specs.declared.array.Home.TheVariants.{Zarr, N5, Zarr3, Local}
use Rattle.history.specs.Chunks.{Chunk}
use Rattle.history.specs.Damaged.{IsDamaged}
use Rattle.history.specs.Legal.{IsAsKept}
use Rattle.history.proofs.Laws.{some_inj}
use Rattle.state_laws.specs.Seen.{StoreSeen}
use Rattle.state_laws.specs.Log.{Log}
use Rattle.state_laws.specs.Kept.{AreCellsOf, IsCurrent}
use Rattle.state_laws.specs.Agreement.{Opening, Agrees, IsState}
use Rattle.state_laws.specs.Fetches.{IsAnswered, IsDamagedThere, IsNamed, MaySettle, generation_in}
use Rattle.state_laws.proofs.Outline.{good_in}
use Rattle.state_laws.proofs.Cached.{generation_now}
use Rattle.state_laws.proofs.Decoded.{cells_by_form, decoded_now, damaged_there, dtype_reshaped, fill_reshaped, valid_by_form}

-- the fill of a stored array is a word
zarr_fill : (dtype : Dtype) (fill : Option ℕ) → ForSome fill (IsWord dtype) → IsWord dtype (unwrap_or fill 0)
zarr_fill dtype None each = IsWord-zero dtype
zarr_fill dtype (Some w) each = each w refl

fill_word : (f : Form) → IsMetadata f → IsWord (dtype_of f) (fill_of f)
fill_word (form.Zarr meta) valid = zarr_fill meta.dtype meta.fill valid.fill
fill_word (form.N5 meta) valid = IsWord-zero meta.dtype
fill_word (form.Zarr3 meta) valid = valid.fill
fill_word form.Local valid = IsWord-zero U8

local_reshaped : (home : Home) (s : List ℕ) → arrays.is_local home ≡ false → is_local (with_shape (form_of home) s) ≡ false
local_reshaped (Zarr mount path meta) s stored = refl
local_reshaped (N5 mount path meta) s stored = refl
local_reshaped (Zarr3 mount path meta) s stored = refl
local_reshaped (Local start) s stored = absurd (cc)

module _ (store : StoreSeen) (log : Log) (a : ℕ) (k : Known) (f : Form) (state : IsState store log) (known : known_after log.events a ≡ Some k) (stored : arrays.is_local k.info.home ≡ false) (is : f ≡ with_shape (form_of k.info.home) k.shape) where
  kept_as : IsAsKept k.info k.info.home
  kept_as = (good_in log.events state.1.outline a k known).kept

  pub form_stored : is_local f ≡ false
  form_stored = ap is_local is ∙ local_reshaped k.info.home k.shape stored

  pub form_fill : IsWord (dtype_of f) (fill_of f)
  form_fill =
      let plain = fill_word (form_of k.info.home) (valid_by_form k.info k.info.home stored kept_as) in
      subst (λ g. IsWord (dtype_of g) (fill_of g)) (sym is)
      (subst (λ d. IsWord d (fill_of (with_shape (form_of k.info.home) k.shape))) (sym (dtype_reshaped (form_of k.info.home) k.shape)) (subst (IsWord (dtype_of (form_of k.info.home))) (sym (fill_reshaped (form_of k.info.home) k.shape)) plain))

module _ (store : StoreSeen) (log : Log) (c : Chunk) (key : List ℕ) (f : Form) (bytes : Option (List ℕ)) (state : IsState store log) (named : IsNamed log.events c key) (stored : arrays.is_local named.array.info.home ≡ false)
    (is : f ≡ with_shape (form_of named.array.info.home) named.array.shape) (held : (m : Contents) → store.contents ≡ Some m → bytes ≡ finmap.get m key) where
  pub decoded_answered : (snapshot : SnapshotCells) → snapshot.generation ≡ generation_in log named.array key → snapshot.cells.dtype ≡ dtype_of f → snapshot.cells.shape ≡ chunk_shape_of f
      → ((index : List ℕ) → IsInside (chunk_shape_of f) index → stored_word f (fill_of f) bytes index ≡ Some (word_at snapshot.cells index)) → IsAnswered store log c snapshot
  decoded_answered snapshot generation dtype shape words = record {
    generation = generation ∙ generation_now state.0 store log c key named.array state.1 named named.known;
    cells = λ k known.
        let same = some_inj named.array k (sym named.known ∙ known) in
        subst (λ l. AreCellsOf l snapshot) same (cells_by_form named.array f snapshot is stored (kept_as store log c.array named.array f state named.known stored is) dtype shape);
    now = λ opening start k agrees told known.
        let same = some_inj named.array k (sym named.known ∙ known) in
        let true_to = agrees.holds start told in
        let here = held true_to.contents true_to.told ∙ ap (finmap.get true_to.contents) (sym named.named) in
        subst (λ l. IsCurrent start log.events l c snapshot) same
        (decoded_now start true_to.contents log.events c named.array f true_to.legal true_to.represents named.known stored named.valid is snapshot (generation ∙ generation_now opening store log c key named.array agrees named named.known)
        (λ index inside. subst (λ o. stored_word f (fill_of f) o index ≡ Some (word_at snapshot.cells index)) here (words index inside)));
  }

  pub decoded_damaged : (cause : Damage) → stored_fault f bytes ≡ Some cause → IsDamagedThere store log c key cause
  decoded_damaged cause fault = λ opening start agrees told.
      let true_to = agrees.holds start told in
      let here = held true_to.contents true_to.told ∙ ap (finmap.get true_to.contents) (sym named.named) in
      subst (λ n. IsDamaged start log.events c n cause) named.named
      (damaged_there start true_to.contents log.events c named.array f true_to.legal true_to.represents named.known stored named.valid is cause (subst (λ o. stored_fault f o ≡ Some cause) here fault))

-- an answer may be settled
pub answered_may : (opening : Opening) (store : StoreSeen) (log : Log) (c : Chunk) (snapshot : SnapshotCells) → Agrees opening store log → IsAnswered store log c snapshot → MaySettle opening log c snapshot
answered_may opening store log c snapshot agrees is = record {
  cells = is.cells;
  now = λ start k told known same. is.now opening start k agrees told known;
}
