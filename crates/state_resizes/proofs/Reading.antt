-- What is left of a chunk that a new shape cuts.
use Rattle.std.proofs.Common.{◌≡◌, ℕ, List, [], ◌∷◌, ◌++◌, Bool, true, false, cond, Option, Some, None, refl, sym, ap, subst, ◌∙◌}
use Rattle.std.specs.Prelude.{Result, Err, not}
use Rattle.std.specs.FinMap as finmap
use Rattle.cells.specs.Dense.{DenseCells}
use Rattle.cells.specs.Elements.{word_at}
use Rattle.cells.specs.Numbers.{IsWord}
use Rattle.cells.specs.Places.{IsInside}
use Rattle.chunk_cache.specs.Cache.{after_hit}
use Rattle.chunk_cache.specs.Snapshot.{SnapshotCells}
use Rattle.chunk_forms.specs.declared.form.Damage.{Damage}
use Rattle.chunk_forms.specs.declared.form.Form.{Form}
use Rattle.chunk_forms.specs.Metadata as meta
use Rattle.chunk_forms.specs.Metadata.{shape_of, chunk_shape_of, dtype_of, fill_of, with_shape}
use Rattle.chunk_forms.specs.Words.{stored_fault, stored_word}
use Rattle.history.specs.declared.array.Home.{Home}
use Rattle.history.specs.declared.array.Home.TheVariants.{Zarr, N5, Zarr3, Local}
use Rattle.history.specs.Arrays.{Known, known_after, form_of, is_local, chunk_shape}
use Rattle.history.specs.Chunks.{Chunk, IsIndexOf, chunk_key}
use Rattle.history.specs.Own.{fault}
use Rattle.history.specs.ReadRows.{mount_of}
use Rattle.history.specs.Resizes.{is_cut, reaches_into}
use Rattle.history.specs.Snapshots.{chunk_box}
use Rattle.history.proofs.Laws.{IsGood, some_inj}
use Rattle.chunk_plans.specs.Laid.{IsChunkOf}
use Rattle.chunk_plans.specs.Resized.{is_gone}
use Rattle.chunk_plans.specs.Left.{IsLeft}
use Rattle.chunk_plans.proofs.Laws.{shape_told, chunk_told, dtype_told, valid_chunks, valid_ranks, same_by, same_log}
use Rattle.chunk_plans.specs.Agreement.{IsState}
use Rattle.chunk_plans.specs.Fetches.{HasFailed, IsAnswered, IsDamagedThere, IsNamed, looked_at}
use Rattle.chunk_plans.specs.Fetches as fetches
use Rattle.chunk_plans.specs.Log.{Log}
use Rattle.chunk_plans.specs.Looks.{IsFailedLook, IsStoredLook}
use Rattle.chunk_plans.specs.Writes.{IsSameButCache}
use Rattle.chunk_plans.specs.Seen.{StoreSeen}
use Rattle.chunk_plans.specs.declared.NewShape.{NewShape}
use Rattle.chunk_plans.specs.declared.FetchError.{FetchError}
use Rattle.chunk_plans.specs.declared.FetchError.TheVariants as fetch
use Rattle.chunk_plans.proofs.Laws.{form_fill, good_in}
use Rattle.state_resizes.specs.Answers.{fixed_by}
use Rattle.state_resizes.specs.Cuts.{IsBegun, IsLeftBy, IsLeftOfCut, MayCut}
use Rattle.state_resizes.specs.Refusals.{IsDamagedBy, IsFailedCall, IsUnfilled}
use Rattle.chunk_plans.proofs.Laws.{look_answered, decoded_damaged, form_stored}
use Rattle.state_resizes.proofs.Absent.{of_fill, fill_at, left_fill}
use Rattle.state_resizes.proofs.Cut.{cut_valid}
use Rattle.state_resizes.proofs.Right.{damage_of}

-- a form with another shape
local_told : (home : Home) (s : List ℕ) → meta.is_local (with_shape (form_of home) s) ≡ is_local home
local_told (Zarr mount path m) s = refl
local_told (N5 mount path m) s = refl
local_told (Zarr3 mount path m) s = refl
local_told (Local start) s = refl

fill_any : (home : Home) (s t : List ℕ) → IsWord (dtype_of (with_shape (form_of home) s)) (fill_of (with_shape (form_of home) s)) → IsWord (dtype_of (with_shape (form_of home) t)) (fill_of (with_shape (form_of home) t))
fill_any (Zarr mount path m) s t word = word
fill_any (N5 mount path m) s t word = word
fill_any (Zarr3 mount path m) s t word = word
fill_any (Local start) s t word = word

-- a chunk of the fill is the same by each shape
fill_reshaped : (home : Home) (s t : List ℕ) → of_fill (with_shape (form_of home) s) ≡ of_fill (with_shape (form_of home) t)
fill_reshaped (Zarr mount path m) s t = refl
fill_reshaped (N5 mount path m) s t = refl
fill_reshaped (Zarr3 mount path m) s t = refl
fill_reshaped (Local start) s t = refl

pub reshaped_form : (home : Home) (s t : List ℕ) → with_shape (with_shape (form_of home) s) t ≡ with_shape (form_of home) t
reshaped_form (Zarr mount path m) s t = refl
reshaped_form (N5 mount path m) s t = refl
reshaped_form (Zarr3 mount path m) s t = refl
reshaped_form (Local start) s t = refl

module _ {store : StoreSeen} {log : Log} (new : NewShape) (index : List ℕ) (state : IsState store log) (begun : IsBegun log.events new)
    (cut : (k : Known) → known_after log.events new.array ≡ Some k → is_cut (chunk_shape k.info) k.shape new.shape index ≡ true) where
  abbrev k : Known
  k = begun.array

  abbrev f : Form
  f = with_shape (form_of k.info.home) new.shape

  good : IsGood new.array k
  good = good_in log.events state.1.outline new.array k begun.known

  pub valid : IsIndexOf k.info index
  valid = cut_valid log.events new.array k new.shape state.1.outline begun.known begun.may.stored index (cut k begun.known)

  shapes : shape_of f ≡ new.shape
  shapes = shape_told k.info.home new.shape begun.may.stored

  chunks : chunk_shape_of f ≡ chunk_shape k.info
  chunks = chunk_told k.info.home k.info.shape new.shape begun.may.stored

  may_now : MayCut f index
  may_now = record {
    stored = local_told k.info.home new.shape ∙ begun.may.stored;
    fill = fill_any k.info.home k.shape new.shape (form_fill store log new.array k (with_shape (form_of k.info.home) k.shape) state begun.known begun.may.stored refl);
    chunk = subst (λ s. IsChunkOf s (chunk_shape_of f) index) (sym shapes) (subst (λ n. IsChunkOf new.shape n index) (sym chunks) (record {
      chunks = valid_chunks k.info k.info.home good.kept begun.may.stored;
      shape_rank = begun.may.rank ∙ sym (valid_ranks k.info k.info.home good.kept begun.may.stored);
      chunk_rank = valid.rank;
      starts = valid.starts;
    }));
  }

  pub may_cut : MayCut new.form index
  may_cut = subst (λ g. MayCut g index) (sym begun.form) may_now

  pub chunk_there : fetches.IsChunkOf log.events (record { array = new.array; index = index })
  chunk_there = record { array = k; known = begun.known; valid = valid }

  reached_told : reaches_into (chunk_shape_of new.form) (shape_of new.form) index ≡ reaches_into (chunk_shape k.info) new.shape index
  reached_told = ap (λ g. reaches_into (chunk_shape_of g) (shape_of g) index) begun.form ∙ ap (λ n. reaches_into n (shape_of f) index) chunks ∙ ap (λ s. reaches_into (chunk_shape k.info) s index) shapes

  box_is : chunk_box k.info ≡ chunk_shape k.info
  box_is = ap (λ b. cond b k.info.shape (chunk_shape k.info)) begun.may.stored

  -- the words of a chunk that was read are of its form's dtype and shape
  pub read_dtype : (snapshot : SnapshotCells) → IsAnswered store log (record { array = new.array; index = index }) snapshot → snapshot.cells.dtype ≡ dtype_of new.form
  read_dtype snapshot answered = (answered.cells k begun.known).dtype ∙ sym (dtype_told k.info k.info.home new.shape good.kept begun.may.stored) ∙ ap dtype_of (sym begun.form)

  read_sizes : (snapshot : SnapshotCells) → IsAnswered store log (record { array = new.array; index = index }) snapshot → snapshot.cells.shape ≡ chunk_shape k.info
  read_sizes snapshot answered = (answered.cells k begun.known).shape ∙ box_is

  pub read_shape : (snapshot : SnapshotCells) → IsAnswered store log (record { array = new.array; index = index }) snapshot → snapshot.cells.shape ≡ chunk_shape_of new.form
  read_shape snapshot answered = read_sizes snapshot answered ∙ sym chunks ∙ ap chunk_shape_of (sym begun.form)

  -- nothing is left of a chunk without a cell in the new shape
  pub left_gone : is_gone (chunk_shape_of new.form) (shape_of new.form) index ≡ true → IsLeftBy store log new.array new.shape index None
  left_gone gone = λ opening start l agrees told known.
      let same : l ≡ k = some_inj l k (sym known ∙ begun.known) in
      subst (λ m. IsLeftOfCut start log.events m (record { array = new.array; index = index }) new.shape None) (sym same)
      (record {
        gone = λ test. refl;
        part = λ test. let clash : false ≡ true = ap not (sym (reached_told ∙ test)) ∙ gone in absurd (cc);
      })

  -- of another one its bytes by the new shape
  pub left_read : (snapshot : SnapshotCells) (bytes : Option (List ℕ)) → reaches_into (chunk_shape_of new.form) (shape_of new.form) index ≡ true → IsAnswered store log (record { array = new.array; index = index }) snapshot
      → IsLeft new.form index [] (Some snapshot.cells) bytes → IsLeftBy store log new.array new.shape index bytes
  left_read snapshot bytes reached answered left = λ opening start l agrees told known.
      let same : l ≡ k = some_inj l k (sym known ∙ begun.known) in
      subst (λ m. IsLeftOfCut start log.events m (record { array = new.array; index = index }) new.shape bytes) (sym same)
      (record {
        gone = λ test. let clash : true ≡ false = sym reached ∙ reached_told ∙ test in absurd (cc);
        part = λ test. record {
          base = snapshot.cells;
          generation = snapshot.generation;
          snapshot = answered.now opening start k agrees told begun.known;
          sizes = read_sizes snapshot answered;
          left = subst (λ g. IsLeft g index [] (Some snapshot.cells) bytes) begun.form left;
        };
      })

  abbrev here : Chunk
  here = record { array = new.array; index = index }

  -- a look's form is that of a stored array, and its fill is a word
  pub look_stored : (generation : ℕ) (form : Form) (bytes : Option (List ℕ)) → IsStoredLook store log here generation form bytes → meta.is_local form ≡ false
  look_stored generation form bytes look = form_stored store log new.array look.array form state look.known look.stored look.form_is

  pub look_fill : (generation : ℕ) (form : Form) (bytes : Option (List ℕ)) → IsStoredLook store log here generation form bytes → IsWord (dtype_of form) (fill_of form)
  look_fill generation form bytes look = form_fill store log new.array look.array form state look.known look.stored look.form_is

  -- what a look's bytes decode to is the chunk
  pub decoded : (generation : ℕ) (form : Form) (bytes : Option (List ℕ)) (cells : DenseCells) → IsStoredLook store log here generation form bytes → cells.dtype ≡ dtype_of form → cells.shape ≡ chunk_shape_of form
      → ((at : List ℕ) → IsInside (chunk_shape_of form) at → stored_word form (fill_of form) bytes at ≡ Some (word_at cells at)) → IsAnswered store log here (record { generation = generation; cells = cells })
  decoded generation form bytes cells look dtype shape words = look_answered store log here generation form bytes (record { generation = generation; cells = cells }) state look refl dtype shape words

  -- nothing is left of a chunk that the store doesn't have
  pub left_absent : (generation : ℕ) (form : Form) → reaches_into (chunk_shape_of new.form) (shape_of new.form) index ≡ true → IsStoredLook store log here generation form None → IsLeftBy store log new.array new.shape index None
  left_absent generation form reached look =
      let one : look.array ≡ k = some_inj look.array k (sym look.known ∙ begun.known) in
      let same : of_fill new.form ≡ of_fill form =
      ap of_fill begun.form ∙ fill_reshaped k.info.home new.shape look.array.shape ∙ ap (λ (l : Known). of_fill (with_shape (form_of l.info.home) look.array.shape)) (sym one) ∙ ap of_fill (sym look.form_is) in
      left_read (record { generation = generation; cells = of_fill form }) None reached (decoded generation form None (of_fill form) look refl refl (λ at inside. ap Some (sym (fill_at form at inside))))
      (subst (λ d. IsLeft new.form index [] (Some d) None) same (left_fill new.form index))

  -- damage of a chunk that is cut in part
  pub damaged_cut : (name : List ℕ) (cause : Damage) → reaches_into (chunk_shape_of new.form) (shape_of new.form) index ≡ true → IsDamagedThere store log here name cause → IsDamagedBy store log new.array new.shape name cause
  damaged_cut name cause reached there = λ opening start agrees told.
      damage_of start log.events 0 new.array k new.shape state.1.outline begun.known begun.may.stored good.kept (fixed_by opening start) refl index name cause (cut k begun.known) (sym reached_told ∙ reached) (there opening start agrees told)

  -- a look's bytes are no chunk
  pub damaged_look : (generation : ℕ) (form : Form) (bytes : Option (List ℕ)) (cause : Damage) (l : Known) → reaches_into (chunk_shape_of new.form) (shape_of new.form) index ≡ true → IsStoredLook store log here generation form bytes
      → known_after log.events new.array ≡ Some l → stored_fault form bytes ≡ Some cause → IsDamagedBy store log new.array new.shape (chunk_key l index) cause
  damaged_look generation form bytes cause l reached look known fault =
      let one : look.array ≡ l = some_inj look.array l (sym look.known ∙ known) in
      let key = chunk_key l index in
      let named : IsNamed log.events here key = record { array = look.array; known = look.known; valid = look.valid; named = ap (λ (m : Known). chunk_key m index) one } in
      damaged_cut key cause reached
      (decoded_damaged store log here key form bytes state named look.stored look.form_is (λ m told. look.held m told ∙ ap (λ n. finmap.get m n) (ap (λ (p : Known). chunk_key p index) one)) cause fault)

  -- why it wasn't read
  failed_call : (owner : ℕ) (next : StoreSeen) (later : Log) (event : ℕ) → IsFailedLook owner (record { array = new.array; index = index }) store next log later event → IsFailedCall owner new.mount store next log later event
  failed_call owner next later event failed =
      let same : failed.array ≡ k = some_inj failed.array k (sym failed.known ∙ begun.known) in
      let mount : failed.mount ≡ new.mount = some_inj failed.mount new.mount (sym failed.on_mount ∙ ap (λ (m : Known). mount_of m.info.home) same ∙ begun.mount) in
      record {
        rose = failed.failed.rose;
        events = ap (λ (l : Log). l.events) failed.failed.added ∙ ap (λ m. log.events ++ fault owner m ∷ []) mount;
        generations = ap (λ (l : Log). l.generations) failed.failed.added;
        locals = ap (λ (l : Log). l.locals) failed.failed.added;
        number = failed.failed.number;
      }

  pub unread : {A : Type 0} (owner : ℕ) (next : StoreSeen) (later : Log) (r : Result A FetchError) (e : FetchError) → reaches_into (chunk_shape_of new.form) (shape_of new.form) index ≡ true → r ≡ Err e
      → ((event : ℕ) → r ≡ Err (fetch.StoreFailed event) → IsFailedLook owner (record { array = new.array; index = index }) store next log later event)
      → ((name : List ℕ) (cause : Damage) → r ≡ Err (fetch.Damaged name cause) → (later ≡ log) × IsDamagedThere store log (record { array = new.array; index = index }) name cause) → (r ≡ Err fetch.Memory → later ≡ log)
      → IsUnfilled owner new store next log later e
  unread owner next later r (fetch.StoreFailed event) reached is failed damaged memory = failed_call owner next later event (failed event is)
  unread owner next later r (fetch.Damaged name cause) reached is failed damaged memory = let there = damaged name cause is in (same_by log later there.0, damaged_cut name cause reached there.1)
  unread owner next later r fetch.Memory reached is failed damaged memory = same_by log later (memory is)

either_same : (b : Bool) (old one other : Log) → IsSameButCache old one → IsSameButCache old other → IsSameButCache old (cond b one other)
either_same true old one other a b = a
either_same false old one other a b = b

-- a look changes the cache alone
pub looked_same : (old new : Log) (k : Known) (key : List ℕ) → new ≡ looked_at old k key → IsSameButCache old new
looked_same old new k key is =
    subst (IsSameButCache old) (sym is)
    (either_same (is_local k.info.home) old old (record old { cache = record old.cache { entries = after_hit key old.cache.entries } }) (same_log old) (record { events = refl; generations = refl; locals = refl }))
