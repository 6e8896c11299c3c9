-- A new array.
use Rattle.std.proofs.Common.{◌≡◌, ◌<◌, ℕ, ◌+◌, ◌/◌, List, [], ◌∷◌, ◌++◌, length, map, max, get_or, Bool, true, false, cond, Option, Some, None, refl, sym, ap, subst, ◌∙◌, arith, replicate, eqb-true}
use Rattle.std.specs.Prelude.{◌==◌, ◌&&◌, nat_le, slice_index, if◌then◌else◌}
use Rattle.std.specs.FinMap as finmap
use Rattle.std.specs.Str.{bytes_eq}
use Rattle.std.proofs.Math.Nat.{div-eq_of_lt}
use Rattle.std.proofs.lemmas.List.{get_or_append_left, get_or_at, length_push}
use Rattle.std.proofs.lemmas.Slice.Eq.{bytes_eq-Decides}
use Rattle.cells.specs.Dense.{DenseCells}
use Rattle.cells.specs.Places.{IsInside, cell_count}
use Rattle.cells.specs.Shapes.{is_inside}
use Rattle.history.specs.declared.array.ArrayInfo.{ArrayInfo}
use Rattle.history.specs.declared.array.Home.TheVariants.{Local}
use Rattle.history.specs.declared.event.Event.{Event}
use Rattle.history.specs.declared.event.Kind.TheVariants.{Opened}
use Rattle.history.specs.Arrays.{Known, known_after, known_step, chunk_shape, chunk_shape_in, is_local}
use Rattle.history.specs.Chunks.{Chunk, chunk_in, chunk_index}
use Rattle.history.specs.History.{History}
use Rattle.history.specs.Legal.{IsLegal, IsLegalOpening, IsAsCells, IsAsKept, opens, is_opening}
use Rattle.history.specs.Targets.{Cell}
use Rattle.history.specs.Touch.{touches_by}
use Rattle.history.proofs.Laws.{legal_step, opening_of, opened_as, opened_then, known_after-more, known_below, none_is_none, some_inj, inside-from}
use Rattle.chunk_versions.specs.Versions.{Versions, IsVersions, word_as_of}
use Rattle.version_laws.specs.Kept.{IsCellOf, AreVersionsOf}
use Rattle.version_laws.proofs.Cells.{array_known, cell_inside}
use Rattle.version_laws.proofs.Laws.{untouched_versions, new_versions, stored_words, local_words}
use Rattle.version_store.specs.Ids.{id_of, found, IsChunkIn}
use Rattle.version_store.specs.Opened.{IsOpened, HasEntered}
use Rattle.version_store.specs.Openings.{no_opening, IsNew, IsKeptAs}
use Rattle.version_store.specs.Stores.{IsKeptUnder, IsStoreOf}
use Rattle.version_store.specs.declared.opening.Opening.{Opening}
use Rattle.version_store.specs.declared.store.VersionStore.{VersionStore}
use Rattle.version_store.proofs.Stores.{count_more, chunk_before}

-- what is kept of a chunk is kept under its id
under_id : (s : VersionStore) (c : Chunk) (id : List ℕ) (v : Versions) → id ≡ id_of c → IsKeptUnder s id v → IsKeptAs (get_or s.arrays.items c.array no_opening) (found s.chunks.entries (id_of c)) v
under_id s c id v named kept = subst (λ i. IsKeptUnder s i v) named kept

-- no size of a shape that has a cell is 0
whole_sizes : (shape index : List ℕ) → IsInside shape index → map (max 1) shape ≡ shape
whole_sizes [] index inside = refl
whole_sizes (n ∷ shape) [] inside = absurd inside
whole_sizes (n ∷ shape) (i ∷ index) inside = let low : i < n = inside.0 in let one : max 1 n ≡ n = omega (arith, low) in λ t. one t ∷ whole_sizes shape index inside.1 t

-- that of the one chunk of a local array that has a cell
pub local_size : (info : ArrayInfo) (start : DenseCells) (n : ℕ) → info.home ≡ Local start → n ≡ length start.words → IsAsKept info info.home → (index : List ℕ) → is_inside info.shape index ≡ true → n ≡ cell_count (chunk_shape info)
local_size info start n home count kept index inside =
    let cells : IsAsCells info start = subst (IsAsKept info) home kept in
    count ∙ cells.valid.full ∙ ap cell_count (sym cells.shape) ∙ ap cell_count (sym (whole_sizes info.shape index (inside-from info.shape index inside)))
    ∙ ap (λ at. cell_count (chunk_shape_in at info.shape)) (sym home)

module _ (h : History) (e : Event) (info : ArrayInfo) (legal : IsLegal finmap.empty (h ++ e ∷ [])) (kind : e.kind ≡ Opened info) where
  lawful : IsLegal finmap.empty h
  lawful = (legal_step finmap.empty h e legal).0

  opening : IsLegalOpening h info
  opening = opening_of finmap.empty h e.kind info kind (legal_step finmap.empty h e legal).1

  -- an array of another number was there before
  others : (a : ℕ) → (info.number == a) ≡ false → known_after (h ++ e ∷ []) a ≡ known_after h a
  others a other =
      known_after-more h e a ∙ ap (λ act. known_step a h act (known_after h a)) kind
      ∙ ap (λ b. cond b (Some (record { info = info; opened = length h + 1; shape = info.shape })) (known_after h a)) other

  -- an array of the new number was not
  new_before : known_after h info.number ≡ None
  new_before = by (known_after h info.number) refl where
    by : (known : Option Known) → known_after h info.number ≡ known → known ≡ None
    by None is = refl
    by (Some k) is = let low = known_below finmap.empty info.number h lawful k is in let number = opening.number in absurd (omega (arith, low, number))

  -- what is kept is that of the history with the array, where its chunks are right and those of the others stay
  pub store_opened : (s t : VersionStore) (o : Opening) → IsStoreOf h s → t.arrays.items ≡ s.arrays.items ++ o ∷ []
      → ((c : Chunk) → (info.number == c.array) ≡ false → found t.chunks.entries (id_of c) ≡ found s.chunks.entries (id_of c))
      → ((c : Chunk) (v : Versions) (x : Cell) → info.number ≡ c.array → IsCellOf (h ++ e ∷ []) c x → found s.chunks.entries (id_of c) ≡ None → IsKeptAs o (found t.chunks.entries (id_of c)) v → AreVersionsOf (h ++ e ∷ []) (opened_as h info) c v)
      → IsStoreOf (h ++ e ∷ []) t
  store_opened s t o store arrays same own = record {
    arrays = (
        let more = count_more h e in
        let one : cond {A = ℕ} (is_opening e) 1 0 ≡ 1 = ap (λ act. cond {A = ℕ} (opens act) 1 0) kind in
        let pushed : length t.arrays.items ≡ length s.arrays.items + 1 = ap length arrays ∙ length_push s.arrays.items o in
        let was = store.arrays in
        omega (arith, more, one, pushed, was));
    unknown = λ c none. unknown_by c none (info.number == c.array) refl;
    chunks = λ k c id v at is kept. chunk_by k c id v at is kept (info.number == c.array) refl;
  } where
    unknown_by : (c : Chunk) → known_after (h ++ e ∷ []) c.array ≡ None → (b : Bool) → (info.number == c.array) ≡ b → found t.chunks.entries (id_of c) ≡ None
    unknown_by c none true is = absurd (none_is_none (opened_as h info) (sym none ∙ opened_then h e info c.array kind (eqb-true info.number c.array is)))
    unknown_by c none false is = same c is ∙ store.unknown c (sym (others c.array is) ∙ none)

    last : (c : Chunk) → info.number ≡ c.array → get_or t.arrays.items c.array no_opening ≡ o
    last c number =
        ap (λ (os : List Opening). get_or os c.array no_opening) arrays
        ∙ get_or_at s.arrays.items o [] no_opening c.array (store.arrays ∙ sym opening.number ∙ number)

    front : (c : Chunk) (k : Known) → known_after h c.array ≡ Some k → get_or t.arrays.items c.array no_opening ≡ get_or s.arrays.items c.array no_opening
    front c k known =
        let low = known_below finmap.empty c.array h lawful k known in
        let was = store.arrays in
        let within : c.array < length s.arrays.items = omega (arith, low, was) in
        ap (λ (os : List Opening). get_or os c.array no_opening) arrays ∙ get_or_append_left s.arrays.items (o ∷ []) no_opening c.array within

    chunk_by : (k : Known) (c : Chunk) (id : List ℕ) (v : Versions) → IsChunkIn (h ++ e ∷ []) k c id → IsVersions v → IsKeptUnder t id v → (b : Bool) → (info.number == c.array) ≡ b → AreVersionsOf (h ++ e ∷ []) k c v
    chunk_by k c id v at is kept true new =
        let number : info.number ≡ c.array = eqb-true info.number c.array new in
        let none : found s.chunks.entries (id_of c) ≡ None = store.unknown c (ap (known_after h) (sym number) ∙ new_before) in
        let here : IsKeptAs o (found t.chunks.entries (id_of c)) v = subst (λ q. IsKeptAs q (found t.chunks.entries (id_of c)) v) (last c number) (under_id t c id v at.named kept) in
        let array : opened_as h info ≡ k = some_inj (opened_as h info) k (sym (opened_then h e info c.array kind number) ∙ at.known) in
        subst (λ l. AreVersionsOf (h ++ e ∷ []) l c v) array (own c v at.cell number at.has none here)
    chunk_by k c id v at is kept false other =
        let known : known_after h c.array ≡ Some k = sym (others c.array other) ∙ at.known in
        let there : IsKeptAs (get_or s.arrays.items c.array no_opening) (found s.chunks.entries (id_of c)) v =
        subst (λ found_there. IsKeptAs (get_or s.arrays.items c.array no_opening) found_there v) (same c other)
        (subst (λ q. IsKeptAs q (found t.chunks.entries (id_of c)) v) (front c k known) (under_id t c id v at.named kept)) in
        let before : IsChunkIn h k c id = chunk_before h e k c id known at in
        let here : IsKeptUnder s id v = subst (λ i. IsKeptUnder s i v) (sym at.named) there in
        untouched_versions h e k c v is (ap (λ act. touches_by h act c) kind ∙ other) at.known (store.chunks k c id v before is here)

  -- a cell of a chunk of the new array lies in it
  cell_in : (c : Chunk) (x : Cell) → info.number ≡ c.array → IsCellOf (h ++ e ∷ []) c x → is_inside info.shape x.index ≡ true
  cell_in c x number cell = cell_inside (h ++ e ∷ []) (opened_as h info) c x cell (opened_then h e info c.array kind number)

  -- a chunk of a stored array has its fill
  pub new_stored : (c : Chunk) (v : Versions) (x : Cell) (o : Opening) → info.number ≡ c.array → IsCellOf (h ++ e ∷ []) c x → is_local info.home ≡ false → o.opened ≡ length h + 1 → o.fill ≡ info.fill
      → (IsAsKept info info.home → (index : List ℕ) → is_inside info.shape index ≡ true → o.size ≡ cell_count (chunk_shape info)) → IsNew o v → AreVersionsOf (h ++ e ∷ []) (opened_as h info) c v
  new_stored c v x o number cell stored opened fill size new =
      new_versions h e info c v legal kind number (new.size ∙ size opening.kept x.index (cell_in c x number cell)) (new.touches ∙ ap (λ n. n ∷ []) opened)
      (stored_words h info v stored (λ m place. new.words m place ∙ (λ i. if nat_le (opened i) m then Some (fill i) else None)))

  -- the chunk of a local array has the array's words
  pub new_local : (c : Chunk) (v : Versions) (x : Cell) (start : DenseCells) (number : ℕ) → info.number ≡ c.array → IsCellOf (h ++ e ∷ []) c x → info.home ≡ Local start → number ≡ length h + 1 → v.size ≡ length start.words → v.touches ≡ number ∷ []
      → ((m place : ℕ) → place < length start.words → word_as_of v m place ≡ (if nat_le number m then Some (slice_index start.words place) else None)) → AreVersionsOf (h ++ e ∷ []) (opened_as h info) c v
  new_local c v x start number array cell home now size touches words =
      new_versions h e info c v legal kind array (local_size info start v.size home size opening.kept x.index (cell_in c x array cell)) (touches ∙ ap (λ n. n ∷ []) now)
      (local_words h info start v home opening.kept (λ m place low. words m place low ∙ ap (λ n. if nat_le n m then Some (slice_index start.words place) else None) now))

  -- which is the one of its index
  pub local_index : (c : Chunk) (x : Cell) (start : DenseCells) → info.number ≡ c.array → IsCellOf (h ++ e ∷ []) c x → info.home ≡ Local start → c.index ≡ replicate (length start.shape) 0
  local_index c x start array cell home =
      let cells : IsAsCells info start = subst (IsAsKept info) home opening.kept in
      let known : known_after (h ++ e ∷ []) x.array ≡ Some (opened_as h info) = array_known (h ++ e ∷ []) (opened_as h info) c x cell (opened_then h e info c.array kind array) in
      let inside : IsInside info.shape x.index = inside-from info.shape x.index (cell_in c x array cell) in
      sym (ap (λ (d : Chunk). d.index) cell.chunk)
      ∙ ap (λ (o : Option Known). (chunk_in o x).index) known
      ∙ ap (λ at. chunk_index (chunk_shape_in at info.shape) x.index) home
      ∙ zero_index info.shape x.index inside
      ∙ ap (λ shape. replicate (length shape) 0) cells.shape where
        zero_index : (shape index : List ℕ) → IsInside shape index → chunk_index (map (max 1) shape) index ≡ replicate (length shape) 0
        zero_index [] [] inside = refl
        zero_index [] (i ∷ index) inside = absurd inside
        zero_index (n ∷ shape) [] inside = absurd inside
        zero_index (n ∷ shape) (i ∷ index) inside =
            let low : i < n = inside.0 in
            let one : max 1 n ≡ n = omega (arith, low) in
            let none : i / max 1 n ≡ 0 = ap (λ m. i / m) one ∙ div-eq_of_lt {n = i} {m = n} low in
            λ t. none t ∷ zero_index shape index inside.1 t

-- the id of a chunk of another array is none of this one
pub other_id : (n a : ℕ) (zeros index : List ℕ) → (n == a) ≡ false → bytes_eq (n ∷ zeros) (a ∷ index) ≡ false
other_id n a zeros index other = ap (λ b. b && bytes_eq zeros index) other

-- a stored array that is opened
pub stored_opened : (number : ℕ) (info : ArrayInfo) (s t : VersionStore) (o : Opening) → is_local info.home ≡ false → t.arrays.items ≡ s.arrays.items ++ o ∷ [] → t.chunks.entries ≡ s.chunks.entries → o.opened ≡ number → o.fill ≡ info.fill
    → (IsAsKept info info.home → (index : List ℕ) → is_inside info.shape index ≡ true → o.size ≡ cell_count (chunk_shape info)) → IsOpened number info s t
stored_opened number info s t o stored arrays chunks opened fill size h e legal kind now store =
    store_opened h e info legal kind s t o store arrays (λ c other. ap (λ es. found es (id_of c)) chunks) (λ c v x array cell none kept.
    new_stored h e info legal kind c v x o array cell stored (opened ∙ now) fill size
    (subst (λ entry. IsKeptAs o entry v) (ap (λ es. found es (id_of c)) chunks ∙ none) kept))

-- a local array that is opened, whose chunk was entered
pub local_opened : (number : ℕ) (info : ArrayInfo) (s t : VersionStore) (o : Opening) (start : DenseCells) → info.home ≡ Local start → t.arrays.items ≡ s.arrays.items ++ o ∷ []
    → HasEntered (length s.arrays.items ∷ replicate (length start.shape) 0) number start.words s.chunks.entries t.chunks.entries → IsOpened number info s t
local_opened number info s t o start home arrays has h e legal kind now store =
    store_opened h e info legal kind s t o store arrays (λ c other. has.table (id_of c) ∙ ap (λ b. cond b (Some has.versions) (found s.chunks.entries (id_of c))) (unlike c other)) (λ c v x array cell none kept.
    let entry : found t.chunks.entries (id_of c) ≡ Some has.versions = has.table (id_of c) ∙ ap (λ b. cond b (Some has.versions) (found s.chunks.entries (id_of c))) (alike c x array cell) in
    let is : v ≡ has.versions = subst (λ there. IsKeptAs o there v) entry kept in
    subst (λ w. AreVersionsOf (h ++ e ∷ []) (opened_as h info) c w) (sym is) (new_local h e info legal kind c has.versions x start number array cell home now has.size has.touches has.words)) where
      numbered : length s.arrays.items ≡ info.number
      numbered = store.arrays ∙ sym (opening_of finmap.empty h e.kind info kind (legal_step finmap.empty h e legal).1).number

      unlike : (c : Chunk) → (info.number == c.array) ≡ false → bytes_eq (length s.arrays.items ∷ replicate (length start.shape) 0) (id_of c) ≡ false
      unlike c other = ap (λ n. bytes_eq (n ∷ replicate (length start.shape) 0) (id_of c)) numbered ∙ other_id info.number c.array (replicate (length start.shape) 0) c.index other

      alike : (c : Chunk) (x : Cell) → info.number ≡ c.array → IsCellOf (h ++ e ∷ []) c x → bytes_eq (length s.arrays.items ∷ replicate (length start.shape) 0) (id_of c) ≡ true
      alike c x array cell =
          (bytes_eq-Decides (length s.arrays.items ∷ replicate (length start.shape) 0) (id_of c)).1
          (λ i. (numbered ∙ array) i ∷ sym (local_index h e info legal kind c x start array cell home) i)
