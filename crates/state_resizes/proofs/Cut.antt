-- The chunks that a new shape cuts, over the events of a state.
use Rattle.std.proofs.Common.{◌≡◌, ℕ, List, [], ◌∷◌, ◌++◌, length, map, true, false, cond, Some, refl, sym, ap, subst, ◌∙◌, eq-eqb, eqb-true}
use Rattle.std.specs.Prelude.{Contains, ◌==◌, ◌&&◌, filter_map}
use Rattle.std.specs.FinMap as finmap
use Rattle.std.specs.List.{AllByRecursion, IsDistinct}
use Rattle.std.specs.Str.{bytes_eq}
use Rattle.std.proofs.lemmas.Map.Keys.{IsDistinct-cons}
use Rattle.cells.specs.Places.{IsInside, index_vectors}
use Rattle.cells.proofs.IndexVectors.{Contains-index_vectors}
use Rattle.history.specs.declared.event.Event.{Event}
use Rattle.history.specs.Arrays.{Known, known_after, known_reshaped, chunk_shape, is_local}
use Rattle.history.specs.Chunks.{Chunk, IsIndexOf, chunk_index, chunk_key, key_in, metadata_key}
use Rattle.history.specs.Generations.{IsKeyTouched}
use Rattle.history.specs.Grid.{grid_of}
use Rattle.history.specs.History.{History}
use Rattle.history.specs.Legal.{IsLegal}
use Rattle.history.specs.Own.{resized_event}
use Rattle.history.specs.Resizes.{cut_chunks, is_cut, is_cut_in, reaches_into, is_shorter}
use Rattle.history.specs.Touch.{touches}
use Rattle.history.proofs.Laws.{ArePositive, IsGood, among_kept, and_left, and_right, first_cell, first_index, first_inside, good_positive, in_grid, inside-from, kept_among, known_after-more, no_metadata, one_chunk, opened_le, some_inj, valid_of_cut}
use Rattle.chunk_plans.proofs.Laws.{valid_ranks}
use Rattle.chunk_plans.proofs.Laws.{good_in, known-outline}
use Rattle.chunk_plans.specs.Changing.{AreTouched, IsOneOf}
use Rattle.chunk_plans.specs.Outline.{outline}
use Rattle.state_resizes.proofs.Lists.{told_apart, filtered_apart, distinct_by, one_mapped, mapped_one, each_by}

-- keys of chunks, as the history lists them
pub keys_are : (k : Known) (a : ℕ) (xs : List (List ℕ)) → filter_map (λ index. key_in (Some k) (record { array = a; index = index })) xs ≡ map (chunk_key k) xs
keys_are k a [] = refl
keys_are k a (x ∷ xs) = ap (λ ks. chunk_key k x ∷ ks) (keys_are k a xs)

module _ (events : History) (a : ℕ) (k : Known) (shape : List ℕ) (legal : IsLegal finmap.empty (outline events)) (known : known_after events a ≡ Some k) (stored : is_local k.info.home ≡ false) where
  abbrev ns : List ℕ
  ns = chunk_shape k.info

  known_out : known_after (outline events) a ≡ Some k
  known_out = known-outline a events ∙ known

  good : IsGood a k
  good = good_in events legal a k known

  pub positive : ArePositive ns
  positive = good_positive a k good

  pub ranks : length ns ≡ length k.shape
  ranks = valid_ranks k.info k.info.home good.kept stored ∙ sym good.rank

  pub cut_valid : (index : List ℕ) → is_cut ns k.shape shape index ≡ true → IsIndexOf k.info index
  cut_valid index cut = valid_of_cut finmap.empty a (outline events) k shape index legal known_out stored cut

  pub cut_reached : (index : List ℕ) → is_cut ns k.shape shape index ≡ true → reaches_into ns k.shape index ≡ true
  cut_reached index cut = and_left (reaches_into ns k.shape index) (is_shorter ns k.shape shape index) cut

  -- they are listed, and no others
  pub cut_listed : (index : List ℕ) → is_cut ns k.shape shape index ≡ true → Contains (cut_chunks k shape) index
  cut_listed index cut =
      let reached = cut_reached index cut in
      let first = first_inside ns k.shape index reached in
      let inside : IsInside (grid_of k.shape ns) (chunk_index ns (first_cell ns index)) = in_grid k.shape ns (first_cell ns index) ranks positive (inside-from k.shape (first_cell ns index) first) in
      among_kept (is_cut ns k.shape shape) (index_vectors (grid_of k.shape ns)) index
      ((Contains-index_vectors (grid_of k.shape ns) index).1 (subst (IsInside (grid_of k.shape ns)) (first_index ns k.shape index positive reached) inside)) cut

  pub listed_cut : (index : List ℕ) → Contains (cut_chunks k shape) index → is_cut ns k.shape shape index ≡ true
  listed_cut index there = (kept_among (is_cut ns k.shape shape) (index_vectors (grid_of k.shape ns)) index there).1

  pub each_valid : AllByRecursion (IsIndexOf k.info) (cut_chunks k shape)
  each_valid = each_by (IsIndexOf k.info) (cut_chunks k shape) (λ index there. cut_valid index (listed_cut index there))

  -- a chunk is told by its key, and none has the metadata's
  one_index : (x y : List ℕ) → IsIndexOf k.info x → IsIndexOf k.info y → chunk_key k x ≡ chunk_key k y → x ≡ y
  one_index x y p q same = ap (λ (c : Chunk). c.index) (one_chunk finmap.empty (outline events) legal (record { array = a; index = x }) (record { array = a; index = y }) k k known_out known_out p q same)

  other_than : (key : List ℕ) → metadata_key k ≡ Some key → (xs : List (List ℕ)) → AllByRecursion (IsIndexOf k.info) xs → AllByRecursion (λ t. bytes_eq key t ≡ false) (map (chunk_key k) xs)
  other_than key named [] all = tt
  other_than key named (x ∷ xs) all = (
    told_apart key (chunk_key k x)
        (λ same. no_metadata finmap.empty (outline events) legal (record { array = a; index = x }) a k k key known_out all.0 (record { known = known_out; named = named }) (sym same)),
    other_than key named xs all.1,
  )

  -- so no key is changed twice
  pub keys_distinct : (key : List ℕ) → metadata_key k ≡ Some key → IsDistinct bytes_eq (key ∷ map (chunk_key k) (cut_chunks k shape))
  keys_distinct key named =
      IsDistinct-cons bytes_eq key (map (chunk_key k) (cut_chunks k shape)) (other_than key named (cut_chunks k shape) each_valid)
      (distinct_by (IsIndexOf k.info) (chunk_key k) one_index (cut_chunks k shape) each_valid (filtered_apart (is_cut ns k.shape shape) (grid_of k.shape ns)))

  module _ (owner : ℕ) where
    abbrev e : Event
    e = resized_event owner a shape

    abbrev later : History
    later = events ++ e ∷ []

    abbrev now : Known
    now = record k { shape = shape }

    pub known_later : known_after later a ≡ Some now
    known_later = known_after-more events e a ∙ ap (λ b. cond b (known_reshaped shape (known_after events a)) (known_after events a)) (eq-eqb a a refl) ∙ ap (known_reshaped shape) known

    -- a chunk that the event touches is one of the array that is cut
    pub touched_array : (c : Chunk) → touches events e c ≡ true → a ≡ c.array
    touched_array c t = eqb-true a c.array (and_left (a == c.array) (is_cut_in (known_after events c.array) shape c.index) t)

    pub touched_cut : (c : Chunk) → touches events e c ≡ true → is_cut ns k.shape shape c.index ≡ true
    touched_cut c t =
        ap (λ o. is_cut_in o shape c.index) (sym known ∙ ap (known_after events) (touched_array c t)) ∙ and_right (a == c.array) (is_cut_in (known_after events c.array) shape c.index) t

    pub cut_touched : (index : List ℕ) → is_cut ns k.shape shape index ≡ true → touches events e (record { array = a; index = index }) ≡ true
    cut_touched index cut = ap (λ b. b && is_cut_in (known_after events a) shape index) (eq-eqb a a refl) ∙ ap (λ o. is_cut_in o shape index) known ∙ cut

    pub known_of : (c : Chunk) → touches events e c ≡ true → known_after later c.array ≡ Some now
    known_of c t = ap (known_after later) (sym (touched_array c t)) ∙ known_later

    -- their keys are those that the event touches
    touched_all : (c : Chunk) (key : List ℕ) → IsKeyTouched events e c key → IsOneOf (map (chunk_key k) (cut_chunks k shape)) key
    touched_all c key it =
        let there = cut_listed c.index (touched_cut c it.touched) in
        let named : chunk_key now c.index ≡ key = some_inj (chunk_key now c.index) key (sym (ap (λ o. key_in o c) (known_of c it.touched)) ∙ it.has.named) in
        subst (IsOneOf (map (chunk_key k) (cut_chunks k shape))) (ap (chunk_key k) there.2 ∙ named) (mapped_one (chunk_key k) (cut_chunks k shape) there.0 c.index there.1)

    key_touched : (key : List ℕ) → IsOneOf (map (chunk_key k) (cut_chunks k shape)) key → (c : Chunk) × IsKeyTouched events e c key
    key_touched key one =
        let there = one_mapped (chunk_key k) (cut_chunks k shape) key one in
        let cut = listed_cut there.0 there.1 in (
          record { array = a; index = there.0 },
          record {
            has = record { array = now; known = known_later; valid = cut_valid there.0 cut; named = ap (λ o. key_in o (record { array = a; index = there.0 })) known_later ∙ ap Some there.2 };
            touched = cut_touched there.0 cut;
            opened = opened_le a events k known;
          },
        )

    pub keys_touched : AreTouched events e (map (chunk_key k) (cut_chunks k shape))
    keys_touched = record { all = touched_all; only = key_touched }
