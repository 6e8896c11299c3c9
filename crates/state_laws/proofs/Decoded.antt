-- What the store has under a chunk's key is the chunk as it is now.
use Rattle.std.proofs.Common.{◌≡◌, ℕ, ◌<◌, ◌≤◌, List, false, cond, Option, Some, None, inl, inr, refl, sym, ap, subst, ◌∙◌}
use Rattle.std.specs.FinMap as finmap
use Rattle.std.proofs.lemmas.Bool.{cases_lt}
use Rattle.cells.specs.Elements.{word_at}
use Rattle.cells.specs.Places.{IsInside}
use Rattle.chunk_cache.specs.Snapshot.{SnapshotCells}
use Rattle.kv_face.specs.Store.{Contents}
use Rattle.history.specs.declared.Form.{Form}
use Rattle.history.specs.declared.Form.TheVariants as form
use Rattle.history.specs.declared.Damage.{Damage}
use Rattle.history.specs.Metadata.{chunk_shape_of, dtype_of, fill_of, with_shape, IsMetadata}
use Rattle.history.specs.Words.{stored_word, stored_fault, chunk_fault}
use Rattle.history.proofs.Laws.{spells_of_writes, no_fault_of_spells, known_good, none_is_none, words_of_store, same_as_start}
use Rattle.history.specs.declared.array.ArrayInfo.{ArrayInfo}
use Rattle.history.specs.declared.array.Home.{Home}
use Rattle.history.specs.declared.array.Home.TheVariants.{Zarr, N5, Zarr3, Local}
use Rattle.history.specs.History.{History}
use Rattle.history.specs.Arrays.{Known, known_after, chunk_shape, form_of, is_local}
use Rattle.history.specs.Chunks.{Chunk, IsIndexOf, chunk_key, key_in}
use Rattle.history.specs.Damaged.{IsDamaged}
use Rattle.history.specs.Legal.{IsLegal, IsAsKept}
use Rattle.history.specs.Snapshots.{box_in, chunk_box}
use Rattle.history.specs.Store.{RepresentsHistory, IsChunkKept, shape_when_touched}
use Rattle.history.specs.Touch.{generation_of}
use Rattle.state_laws.specs.Kept.{AreCellsOf, IsCurrent}

-- another shape leaves what bytes say
word_reshaped : (f : Form) (s : List ℕ) (fill : ℕ) (o : Option (List ℕ)) (index : List ℕ) → stored_word (with_shape f s) fill o index ≡ stored_word f fill o index
word_reshaped f s fill None index = refl
word_reshaped (form.Zarr meta) s fill (Some bytes) index = refl
word_reshaped (form.N5 meta) s fill (Some bytes) index = refl
word_reshaped (form.Zarr3 meta) s fill (Some bytes) index = refl
word_reshaped form.Local s fill (Some bytes) index = refl

fault_reshaped : (f : Form) (s : List ℕ) (o : Option (List ℕ)) → stored_fault (with_shape f s) o ≡ stored_fault f o
fault_reshaped f s None = refl
fault_reshaped (form.Zarr meta) s (Some bytes) = refl
fault_reshaped (form.N5 meta) s (Some bytes) = refl
fault_reshaped (form.Zarr3 meta) s (Some bytes) = refl
fault_reshaped form.Local s (Some bytes) = refl

pub fill_reshaped : (f : Form) (s : List ℕ) → fill_of (with_shape f s) ≡ fill_of f
fill_reshaped (form.Zarr meta) s = refl
fill_reshaped (form.N5 meta) s = refl
fill_reshaped (form.Zarr3 meta) s = refl
fill_reshaped form.Local s = refl

chunk_reshaped : (f : Form) (s : List ℕ) → chunk_shape_of (with_shape f s) ≡ chunk_shape_of f
chunk_reshaped (form.Zarr meta) s = refl
chunk_reshaped (form.N5 meta) s = refl
chunk_reshaped (form.Zarr3 meta) s = refl
chunk_reshaped form.Local s = refl

pub dtype_reshaped : (f : Form) (s : List ℕ) → dtype_of (with_shape f s) ≡ dtype_of f
dtype_reshaped (form.Zarr meta) s = refl
dtype_reshaped (form.N5 meta) s = refl
dtype_reshaped (form.Zarr3 meta) s = refl
dtype_reshaped form.Local s = refl

-- a stored array is as its form says
box_by_form : (info : ArrayInfo) (home : Home) → info.home ≡ home → is_local home ≡ false → chunk_box info ≡ chunk_shape_of (form_of home)
box_by_form info (Zarr mount path meta) is stored = ap (λ h. box_in h info.shape) is
box_by_form info (N5 mount path meta) is stored = ap (λ h. box_in h info.shape) is
box_by_form info (Zarr3 mount path meta) is stored = ap (λ h. box_in h info.shape) is
box_by_form info (Local start) is stored = absurd (cc)

dtype_by_form : (info : ArrayInfo) (home : Home) → is_local home ≡ false → IsAsKept info home → info.dtype ≡ dtype_of (form_of home)
dtype_by_form info (Zarr mount path meta) stored is = is.dtype
dtype_by_form info (N5 mount path meta) stored is = is.dtype
dtype_by_form info (Zarr3 mount path meta) stored is = is.dtype
dtype_by_form info (Local start) stored is = absurd (cc)

fill_by_form : (info : ArrayInfo) (home : Home) → is_local home ≡ false → IsAsKept info home → info.fill ≡ fill_of (form_of home)
fill_by_form info (Zarr mount path meta) stored is = is.fill
fill_by_form info (N5 mount path meta) stored is = is.fill
fill_by_form info (Zarr3 mount path meta) stored is = is.fill
fill_by_form info (Local start) stored is = absurd (cc)

pub valid_by_form : (info : ArrayInfo) (home : Home) → is_local home ≡ false → IsAsKept info home → IsMetadata (form_of home)
valid_by_form info (Zarr mount path meta) stored is = is.valid
valid_by_form info (N5 mount path meta) stored is = is.valid
valid_by_form info (Zarr3 mount path meta) stored is = is.valid
valid_by_form info (Local start) stored is = absurd (cc)

-- a decoded chunk has its array's dtype and its shape
pub cells_by_form : (k : Known) (f : Form) (snapshot : SnapshotCells) → f ≡ with_shape (form_of k.info.home) k.shape → is_local k.info.home ≡ false → IsAsKept k.info k.info.home
    → snapshot.cells.dtype ≡ dtype_of f → snapshot.cells.shape ≡ chunk_shape_of f → AreCellsOf k snapshot
cells_by_form k f snapshot is stored kept dtype shape = record {
  dtype = dtype ∙ ap dtype_of is ∙ dtype_reshaped (form_of k.info.home) k.shape ∙ sym (dtype_by_form k.info k.info.home stored kept);
  shape = shape ∙ ap chunk_shape_of is ∙ chunk_reshaped (form_of k.info.home) k.shape ∙ sym (box_by_form k.info k.info.home refl stored);
}

module _ (start contents : Contents) (h : History) (c : Chunk) (k : Known) (f : Form) (legal : IsLegal start h) (represents : RepresentsHistory contents start h) (known : known_after h c.array ≡ Some k) (stored : is_local k.info.home ≡ false)
    (valid : IsIndexOf k.info c.index) (is : f ≡ with_shape (form_of k.info.home) k.shape) where
  abbrev held : Option (List ℕ)
  held = finmap.get contents (chunk_key k c.index)

  kept_as : IsAsKept k.info k.info.home
  kept_as = (known_good start c.array h legal k known).kept

  -- what was decoded is the chunk as it is now
  pub decoded_now : (snapshot : SnapshotCells) → snapshot.generation ≡ generation_of h c
      → ((index : List ℕ) → IsInside (chunk_shape_of f) index → stored_word f (fill_of f) held index ≡ Some (word_at snapshot.cells index)) → IsCurrent start h k c snapshot
  decoded_now snapshot generation words = record {
    known = known;
    valid = valid;
    current = generation;
    cells = λ index inside.
        let box = box_by_form k.info k.info.home refl stored in
        let in_chunk : IsInside (chunk_shape k.info) index = subst (λ s. IsInside s index) (box_is k.info k.info.home refl stored) inside in
        let in_form : IsInside (chunk_shape_of f) index = subst (λ s. IsInside s index) (box ∙ sym (ap chunk_shape_of is ∙ chunk_reshaped (form_of k.info.home) k.shape)) inside in
        words_of_store contents start h c k index legal represents known stored valid in_chunk
        ∙ ap (λ n. stored_word (form_of k.info.home) n held index) (fill_by_form k.info k.info.home stored kept_as)
        ∙ sym (word_reshaped (form_of k.info.home) k.shape (fill_of (form_of k.info.home)) held index)
        ∙ ap (λ n. stored_word (with_shape (form_of k.info.home) k.shape) n held index) (sym (fill_reshaped (form_of k.info.home) k.shape))
        ∙ ap (λ g. stored_word g (fill_of g) held index) (sym is)
        ∙ words index in_form;
  }
    where
      box_is : (info : ArrayInfo) (home : Home) → info.home ≡ home → is_local home ≡ false → chunk_box info ≡ chunk_shape info
      box_is info home same local = ap (λ b. cond b info.shape (chunk_shape info)) (ap is_local same ∙ local)

  damaged_by : (cause : Damage) (o : Option (List ℕ)) → o ≡ held → stored_fault f o ≡ Some cause → (bytes : List ℕ) × (held ≡ Some bytes) × (chunk_fault (form_of k.info.home) bytes ≡ Some cause)
  damaged_by cause None same fault = absurd (cc)
  damaged_by cause (Some bytes) same fault = (bytes, sym same, sym (fault_reshaped (form_of k.info.home) k.shape (Some bytes)) ∙ ap (λ g. stored_fault g (Some bytes)) (sym is) ∙ fault)

  -- what a commit or a resize wrote is a chunk
  written_sound : (cause : Damage) (bytes : List ℕ) → held ≡ Some bytes → chunk_fault (form_of k.info.home) bytes ≡ Some cause → k.opened < generation_of h c → ⊥
  written_sound cause bytes same broken late =
      let kept : IsChunkKept start h k c (shape_when_touched h c) (Some bytes) =
      subst (IsChunkKept start h k c (shape_when_touched h c)) same (represents.chunks c k (chunk_key k c.index) (record { known = known; stored = stored; valid = valid; touched = late }) (ap (λ o. key_in o c) known)) in
      let sound : chunk_fault (form_of k.info.home) bytes ≡ None =
      no_fault_of_spells (form_of k.info.home) bytes kept.0.word (valid_by_form k.info k.info.home stored kept_as) (spells_of_writes (form_of k.info.home) c.index (shape_when_touched h c) bytes kept.0.word kept.0.writes) in
      none_is_none cause (sym sound ∙ broken)

  -- bytes that are no chunk are those of the start
  pub damaged_there : (cause : Damage) → stored_fault f held ≡ Some cause → IsDamaged start h c (chunk_key k c.index) cause
  damaged_there cause fault =
      let by = damaged_by cause held refl fault in
      elim (cases_lt k.opened (generation_of h c)) [
        | inl late ↦ absurd (written_sound cause by.0 by.1 by.2 late)
        | inr early ↦
            let small : generation_of h c ≤ k.opened = early in
            record {
              array = k;
              known = known;
              stored = stored;
              valid = valid;
              named = ap (λ o. key_in o c) known;
              untouched = small;
              bytes = by.0;
              held = sym (same_as_start contents start h c k legal represents known valid small) ∙ by.1;
              broken = by.2;
            }
      ]
