-- The changes of a resize are those of its event, and no chunk that is cut in part is damaged.
use Rattle.std.proofs.Common.{◌≡◌, ◌≢◌, ℕ, zero, suc, ◌+◌, ◌<◌, inl, inr, List, [], ◌∷◌, ◌++◌, length, map, Bool, true, false, cond, Option, Some, None, refl, sym, ap, subst, ◌∙◌, eq-eqb, eqb-true, arith}
use Rattle.std.specs.Prelude.{nat_lt, slice_index_or}
use Rattle.std.specs.FinMap as finmap
use Rattle.std.specs.List.{IsDistinct}
use Rattle.std.specs.Str.{bytes_eq}
use Rattle.std.proofs.lemmas.Bool.{lt-ltb}
use Rattle.std.proofs.lemmas.List.{length-map}
use Rattle.cells.specs.Dense.{DenseCells}
use Rattle.cells.specs.Elements.{word_at}
use Rattle.cells.specs.Places.{IsInside}
use Rattle.cells.proofs.Laws.{true_or_false}
use Rattle.chunk_forms.specs.declared.form.Damage.{Damage}
use Rattle.chunk_forms.specs.Metadata.{metadata_text, with_shape, shape_of, chunk_shape_of, fill_of}
use Rattle.chunk_forms.specs.Words.{is_inside}
use Rattle.kv_face.specs.Store.{Contents, keys_of}
use Rattle.kv_face.specs.declared.change.Change.{Change}
use Rattle.stack_driver.specs.Targets.{Cell}
use Rattle.history.specs.declared.array.Home.{Home}
use Rattle.history.specs.declared.array.Home.TheVariants.{Zarr, N5, Zarr3, Local}
use Rattle.history.specs.declared.event.Event.{Event}
use Rattle.history.specs.Arrays.{Known, known_after, chunk_shape, form_of, is_local}
use Rattle.history.specs.Chunks.{Chunk, IsIndexOf, cell_at, chunk_index, chunk_key, chunk_in, chunk_of, in_array, key_in, metadata_key}
use Rattle.history.specs.Commit.{Fixed, Key}
use Rattle.history.specs.Content.{content_after, cut_to, present_shape, word_outside}
use Rattle.history.specs.Damaged.{IsDamaged}
use Rattle.history.specs.History.{History}
use Rattle.history.specs.Legal.{IsLegal, IsAsKept}
use Rattle.history.specs.Own.{resized_event}
use Rattle.history.specs.Refusals.{IsDamagedResize}
use Rattle.history.specs.ResizeRows.{HasNoDamagedPart}
use Rattle.history.specs.Resizes.{cut_chunks, is_cut, reaches_into, IsCutCell}
use Rattle.history.specs.Snapshots.{IsSnapshotOf}
use Rattle.history.specs.Store.{IsChanged, IsChunkKept, metadata_bytes, resized_after, shape_when_touched}
use Rattle.history.specs.Stored.{AreChangesOf, HasBytes}
use Rattle.history.specs.Touch.{touches}
use Rattle.history.proofs.Laws.{cell_of_is_cut, chunk_index-in_array, content_of_resize, cut_of_cell, first_cell, first_index, first_inside, generation_touched, inside_zeros, no_word_of_damaged, opened_le, reaches_own, resized_after-more, shape_now, some_inj, zeros}
use Rattle.chunk_plans.specs.Laid.{cut_word, laid_word, word_within}
use Rattle.chunk_plans.proofs.Laws.{snapshot_of_cut, kept_of_bytes, shape_told, chunk_told, fill_told}
use Rattle.chunk_plans.specs.Changing.{IsOneOf}
use Rattle.chunk_plans.specs.Outline.{outline}
use Rattle.state_resizes.specs.Cuts.{bytes_at, IsCutNow, IsLeftOfCut}
use Rattle.state_resizes.proofs.Cut.{positive, ranks, cut_valid, cut_reached, cut_listed, listed_cut, keys_distinct, known_later, touched_array, touched_cut, cut_touched, known_of}
use Rattle.state_resizes.proofs.Lists.{any_at, one_mapped, change_at, key_changed}

-- past its shape a stored array has the fill
outside_stored : (home : Home) (fill : ℕ) → is_local home ≡ false → word_outside home fill ≡ Some fill
outside_stored (Zarr mount path meta) fill stored = refl
outside_stored (N5 mount path meta) fill stored = refl
outside_stored (Zarr3 mount path meta) fill stored = refl
outside_stored (Local start) fill stored = absurd (cc)

-- a stored array's chunks have their full shape
in_full : (home : Home) (shape at : List ℕ) → is_local home ≡ false → (ns : List ℕ) → IsInside ns at → IsInside (cond (is_local home) shape ns) at
in_full home shape at stored ns inside = subst (λ ms. IsInside ms at) (sym (ap (λ b. cond b shape ns) stored)) inside

-- metadata of an array that was resized is written by its present shape
written_by : (events : History) (a : ℕ) (l : Known) (o : Option (List ℕ)) → nat_lt 0 (resized_after events a) ≡ true → metadata_bytes events a l o ≡ Some (metadata_text (with_shape (form_of l.info.home) l.shape))
written_by events a l None resized = refl
written_by events a l (Some bytes) resized = ap (λ b. cond b (Some (metadata_text (with_shape (form_of l.info.home) l.shape))) (Some bytes)) resized

some_word : (w : ℕ) → None ≢ Some w
some_word w same = absurd (cc)

module _ (start : Contents) (events : History) (owner a : ℕ) (k : Known) (shape : List ℕ) (legal : IsLegal finmap.empty (outline events)) (known : known_after events a ≡ Some k) (stored : is_local k.info.home ≡ false) (as_kept : IsAsKept k.info k.info.home) where
  abbrev ns : List ℕ
  ns = chunk_shape k.info

  abbrev e : Event
  e = resized_event owner a shape

  abbrev later : History
  later = events ++ e ∷ []

  abbrev now : Known
  now = record k { shape = shape }

  now_is : known_after later a ≡ Some now
  now_is = known_later events a k shape legal known stored owner

  shape_is : (c : Chunk) → touches events e c ≡ true → shape_when_touched later c ≡ shape
  shape_is c t = shape_now events e c t ∙ ap present_shape (known_of events a k shape legal known stored owner c t)

  -- the cells of a chunk are in it
  in_chunk : (index at : List ℕ) → IsIndexOf k.info index → IsInside ns at → chunk_of events (cell_at now (record { array = a; index = index }) at) ≡ record { array = a; index = index }
  in_chunk index at valid inside =
      let place : chunk_index ns (in_array ns index at) ≡ index = chunk_index-in_array ns index at inside valid.rank in
      ap (λ o. chunk_in o (cell_at now (record { array = a; index = index }) at)) known ∙ ap (λ i. record { array = a; index = i }) place

  -- a chunk without a cell in the new shape has the fill
  gone_outside : (index at : List ℕ) → IsIndexOf k.info index → IsInside ns at → length ns ≡ length shape → reaches_into ns shape index ≡ false → is_inside shape (in_array ns index at) ≡ false
  gone_outside index at valid inside rank gone =
      elim (true_or_false (is_inside shape (in_array ns index at))) [
        | inl t ↦
            let reached = reaches_own ns shape (in_array ns index at) t rank in
            let place : chunk_index ns (in_array ns index at) ≡ index = chunk_index-in_array ns index at inside valid.rank in
            let clash : true ≡ false = sym reached ∙ ap (reaches_into ns shape) place ∙ gone in
            absurd (cc)
        | inr f ↦ f
      ]

  gone_kept : (index : List ℕ) → length ns ≡ length shape → is_cut ns k.shape shape index ≡ true → reaches_into ns shape index ≡ false → IsChunkKept start later now (record { array = a; index = index }) shape None
  gone_kept index rank cut gone = λ at inside.
      let valid = cut_valid events a k shape legal known stored index cut in
      let x : Cell = cell_at now (record { array = a; index = index }) at in
      content_of_resize start events owner a shape x (ap (touches events e) (in_chunk index at valid inside) ∙ cut_touched events a k shape legal known stored owner index cut)
      ∙ ap (λ o. cut_to o shape x (content_after start events x)) known
      ∙ ap (λ b. cond b (content_after start events x) (word_outside k.info.home k.info.fill)) (gone_outside index at valid inside rank gone)
      ∙ outside_stored k.info.home k.info.fill stored

  -- the words that are laid are those that are left inside the new shape
  words_left : (index : List ℕ) (base cells : DenseCells) → base.shape ≡ ns
      → ((at : List ℕ) → IsInside (chunk_shape_of (with_shape (form_of k.info.home) shape)) at
      → word_at cells at ≡ laid_word (shape_of (with_shape (form_of k.info.home) shape)) (chunk_shape_of (with_shape (form_of k.info.home) shape)) index (fill_of (with_shape (form_of k.info.home) shape)) [] (Some base) at)
      → (at : List ℕ) → IsInside ns at → word_at cells at ≡ cut_word shape index k.info.fill base at
  words_left index base cells sizes laid at inside =
      let f = with_shape (form_of k.info.home) shape in
      let told = chunk_told k.info.home k.info.shape shape stored in
      laid at (subst (λ ms. IsInside ms at) (sym told) inside)
      ∙ ap (λ s. word_within s (chunk_shape_of f) index (fill_of f) at (word_at base at)) (shape_told k.info.home shape stored)
      ∙ ap (λ ms. word_within shape ms index (fill_of f) at (word_at base at)) (told ∙ sym sizes)
      ∙ ap (λ w. word_within shape base.shape index w at (word_at base at)) (fill_told k.info k.info.home shape stored as_kept)

  part_kept : (index : List ℕ) (bytes : Option (List ℕ)) → is_cut ns k.shape shape index ≡ true → IsCutNow start events k (record { array = a; index = index }) shape bytes → IsChunkKept start later now (record { array = a; index = index }) shape bytes
  part_kept index bytes cut it =
      let c : Chunk = record { array = a; index = index } in
      kept_of_bytes start later now c (length events + 1) shape it.left.cells bytes stored as_kept
      (snapshot_of_cut start events owner shape k c it.generation it.base it.left.cells stored it.sizes it.snapshot (cut_touched events a k shape legal known stored owner index cut)
      (words_left index it.base it.left.cells it.sizes it.left.laid))
      it.left.written

  -- what is left of a chunk that is cut is what is kept of it behind the event
  left_by : (index : List ℕ) (bytes : Option (List ℕ)) (b : Bool) → reaches_into ns shape index ≡ b → length ns ≡ length shape → is_cut ns k.shape shape index ≡ true → IsLeftOfCut start events k (record { array = a; index = index }) shape bytes
      → IsChunkKept start later now (record { array = a; index = index }) shape bytes
  left_by index bytes true test rank cut left = part_kept index bytes cut (left.part test)
  left_by index bytes false test rank cut left = subst (IsChunkKept start later now (record { array = a; index = index }) shape) (sym (left.gone test)) (gone_kept index rank cut test)

  changed_chunk : (c : Chunk) → touches events e c ≡ true → IsChanged later now c
  changed_chunk c t = record {
    known = known_of events a k shape legal known stored owner c t;
    stored = stored;
    valid = cut_valid events a k shape legal known stored c.index (touched_cut events a k shape legal known stored owner c t);
    touched = let number = generation_touched events e c t in let low = opened_le a events k known in omega arith;
  }

  module _ (rank : length ns ≡ length shape) (changes : List Change) (key : List ℕ) (named : metadata_key k ≡ Some key) (keys : keys_of changes ≡ key ∷ map (chunk_key k) (cut_chunks k shape))
      (meta : bytes_at changes 0 ≡ Some (metadata_text (with_shape (form_of k.info.home) shape)))
      (filled : (j : ℕ) → j < length (cut_chunks k shape) → IsLeftOfCut start events k (record { array = a; index = slice_index_or (cut_chunks k shape) j [] }) shape (bytes_at changes (j + 1))) where
    -- what is left of a chunk that is cut stands at its place
    left_at : (index : List ℕ) → is_cut ns k.shape shape index ≡ true
        → (bytes : Option (List ℕ)) × HasBytes changes (chunk_key k index) bytes × IsLeftOfCut start events k (record { array = a; index = index }) shape bytes
    left_at index cut =
        let there = cut_listed events a k shape legal known stored index cut in
        let low : there.0 < length (cut_chunks k shape) = there.1 in
        let more : there.0 + 1 < length (key ∷ map (chunk_key k) (cut_chunks k shape)) = (let count = length-map (cut_chunks k shape) (chunk_key k) in omega arith) in
        let same : slice_index_or (cut_chunks k shape) there.0 [] ≡ index = any_at (cut_chunks k shape) there.0 [] index low ∙ there.2 in (
          bytes_at changes (there.0 + 1),
          subst (λ t. HasBytes changes t (bytes_at changes (there.0 + 1))) (mapped_at (cut_chunks k shape) there.0 low ∙ ap (chunk_key k) same)
              (change_at changes (key ∷ map (chunk_key k) (cut_chunks k shape)) (there.0 + 1) [] keys more),
          subst (λ i. IsLeftOfCut start events k (record { array = a; index = i }) shape (bytes_at changes (there.0 + 1))) same (filled there.0 low),
        )
      where
        next_at : (xs : List (List ℕ)) (j : ℕ) → slice_index_or (key ∷ xs) (j + 1) [] ≡ slice_index_or xs j []
        next_at xs j = let more : j + 1 ≡ suc j = omega arith in ap (λ n. slice_index_or (key ∷ xs) n []) more

        map_at : (xs : List (List ℕ)) (j : ℕ) → j < length xs → slice_index_or (map (chunk_key k) xs) j [] ≡ chunk_key k (slice_index_or xs j [])
        map_at [] j low = absurd (omega arith)
        map_at (x ∷ xs) zero low = refl
        map_at (x ∷ xs) (suc j) low = map_at xs j (omega arith)

        mapped_at : (xs : List (List ℕ)) (j : ℕ) → j < length xs → slice_index_or (key ∷ map (chunk_key k) xs) (j + 1) [] ≡ chunk_key k (slice_index_or xs j [])
        mapped_at xs j low = next_at (map (chunk_key k) xs) j ∙ map_at xs j low

    -- the changes are the event's own
    pub changes_right : AreChangesOf start events e changes
    changes_right = record {
      change = tt;
      chunks = λ c l name t is text.
          let cut = touched_cut events a k shape legal known stored owner c t in
          let there = left_at c.index cut in
          let same : l ≡ now = some_inj l now (sym is.known ∙ known_of events a k shape legal known stored owner c t) in
          let chunk : record { array = a; index = c.index } ≡ c = ap (λ n. record { array = n; index = c.index }) (touched_array events a k shape legal known stored owner c t) in
          let is_named : chunk_key k c.index ≡ name = some_inj (chunk_key k c.index) name (sym (ap (λ o. key_in o c) (known_of events a k shape legal known stored owner c t)) ∙ text) in
          let kept : IsChunkKept start later now c shape there.0 = subst (λ d. IsChunkKept start later now d shape there.0) chunk (left_by c.index there.0 (reaches_into ns shape c.index) refl rank cut there.2) in (
            there.0,
            subst (λ n. HasBytes changes n there.0) is_named there.1,
            subst (λ m. IsChunkKept start later m c (shape_when_touched later c) there.0) (sym same) (subst (λ s. IsChunkKept start later now c s there.0) (sym (shape_is c t)) kept),
          );
      metadata = λ b l name t has.
          let array : a ≡ b = eqb-true a b t in
          let same : l ≡ now = some_inj l now (sym has.known ∙ ap (known_after later) (sym array) ∙ now_is) in
          let is_named : key ≡ name = some_inj key name (sym named ∙ ap metadata_key (sym same) ∙ has.named) in
          let number : resized_after later b ≡ length events + 1 = resized_after-more events e b ∙ ap (λ u. cond u (length events + 1) (resized_after events b)) t in
          let positive : nat_lt 0 (resized_after later b) ≡ true = lt-ltb 0 (resized_after later b) (omega arith) in
          let text = written_by later b l (finmap.get start name) positive ∙ ap (λ (m : Known). Some (metadata_text (with_shape (form_of m.info.home) m.shape))) same in
          subst (HasBytes changes name) (meta ∙ sym text) (subst (λ n. HasBytes changes n (bytes_at changes 0)) is_named (change_at changes (key ∷ map (chunk_key k) (cut_chunks k shape)) 0 [] keys (omega arith)));
      others = λ name free no_meta bytes has.
          elim (subst (λ ks. IsOneOf ks name) keys (key_changed changes name bytes has)) [
            | inl same ↦ no_meta a now (eq-eqb a a refl) (record { known = now_is; named = named ∙ ap Some same })
            | inr more ↦ (
                let there = one_mapped (chunk_key k) (cut_chunks k shape) name more in
                let cut = listed_cut events a k shape legal known stored there.0 there.1 in
                let t = cut_touched events a k shape legal known stored owner there.0 cut in
                free (record { array = a; index = there.0 }) now t (changed_chunk (record { array = a; index = there.0 }) t) (ap (λ o. key_in o (record { array = a; index = there.0 })) now_is ∙ ap Some there.2))
          ];
      distinct = subst (IsDistinct bytes_eq) (sym keys) (keys_distinct events a k shape legal known stored key named);
    }

    -- a chunk that was read was not damaged
    sound_at : (c : Chunk) (name : Key) (cause : Damage) (generation : ℕ) (word : List ℕ → ℕ) → known_after events c.array ≡ Some k → IsSnapshotOf start events k c generation word → ¬ IsDamaged start events c name cause
    sound_at c name cause generation word is snapshot damaged =
        let same : damaged.array ≡ k = some_inj damaged.array k (sym damaged.known ∙ is) in
        let at = zeros ns in
        let inside = inside_zeros ns (positive events a k shape legal known stored) in
        let none = no_word_of_damaged start events c name cause at damaged (subst (λ (m : Known). IsInside (chunk_shape m.info) at) (sym same) inside) in
        some_word (word at) (sym none ∙ ap (λ m. content_after start events (cell_at m c at)) same ∙ snapshot.cells at (in_full k.info.home k.info.shape at stored ns inside))

    pub no_damage : (fixed : Fixed) → fixed.start ≡ start → HasNoDamagedPart fixed events a shape
    no_damage fixed begun name cause d =
        let same : d.known ≡ k = some_inj d.known k (sym d.is_known ∙ known) in
        let cell : IsCutCell ns k.shape shape d.index d.cut = subst (λ (m : Known). IsCutCell (chunk_shape m.info) m.shape shape d.index d.cut) same d.is_cut in
        let cut = cut_of_cell ns k.shape shape d.index d.cut (ranks events a k shape legal known stored) (sym rank ∙ ranks events a k shape legal known stored) (positive events a k shape legal known stored) cell in
        let place : chunk_index ns d.left ≡ d.index = ap (λ (c : Chunk). c.index) (sym (ap (λ o. chunk_in o (record { array = a; index = d.left })) known) ∙ d.in_chunk) in
        let reached : reaches_into ns shape d.index ≡ true = ap (reaches_into ns shape) (sym place) ∙ reaches_own ns shape d.left d.stays.1 rank in
        let it = (left_at d.index cut).2.part reached in
        sound_at (record { array = a; index = d.index }) name cause it.generation (word_at it.base) known it.snapshot (subst (λ s. IsDamaged s events (record { array = a; index = d.index }) name cause) begun d.damaged)

  -- damage of a chunk that is cut in part
  pub damage_of : (fixed : Fixed) → fixed.start ≡ start → (index name : List ℕ) (cause : Damage) → is_cut ns k.shape shape index ≡ true → reaches_into ns shape index ≡ true → IsDamaged start events (record { array = a; index = index }) name cause
      → IsDamagedResize fixed events a shape name cause
  damage_of fixed begun index name cause cut reached damaged =
      let cell = cell_of_is_cut ns k.shape shape index (positive events a k shape legal known stored) cut in
      let was = cut_reached events a k shape legal known stored index cut in record {
        known = k;
        is_known = known;
        index = index;
        cut = cell.0;
        is_cut = cell.1;
        left = first_cell ns index;
        in_chunk = ap (λ o. chunk_in o (record { array = a; index = first_cell ns index })) known ∙ ap (λ i. record { array = a; index = i }) (first_index ns k.shape index (positive events a k shape legal known stored) was);
        stays = (first_inside ns k.shape index was, first_inside ns shape index reached);
        damaged = subst (λ s. IsDamaged s events (record { array = a; index = index }) name cause) (sym begun) damaged;
      }
