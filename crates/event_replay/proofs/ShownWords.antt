-- Words that a read asks for, chunk by chunk.
use Rattle.std.proofs.Common.{◌≡◌, ◌∙◌, ◌<◌, ℕ, zero, suc, ◌+◌, List, [], ◌∷◌, length, map, drop, get_or, Bool, true, false, cond, Option, Some, None, Ok, refl, sym, ap, subst, arith}
use Rattle.std.specs.Prelude.{◌↔◌, Contains, option_map, slice_index}
use Rattle.std.specs.List.{AllByRecursion}
use Rattle.std.specs.Str.{bytes_eq}
use Rattle.std.proofs.lemmas.Slice.Eq.{bytes_eq-Decides}
use Rattle.cast_driver.specs.declared.cast.Cast.{Cast}
use Rattle.cells.specs.Places.{c_index, c_place}
use Rattle.cells.specs.Shapes.{IsChunkShape}
use Rattle.cells.proofs.Laws.{c_index-c_place}
use Rattle.chunk_versions.specs.Marks.{HasCasts}
use Rattle.chunk_versions.specs.declared.asked.AskedCell.{AskedCell}
use Rattle.history.specs.Arrays.{Known, known_after, chunk_shape}
use Rattle.history.specs.Chunks.{Chunk, cell_at, chunk_index, in_array, within_chunk}
use Rattle.history.specs.History.{History}
use Rattle.history.specs.Targets.{Cell}
use Rattle.history.specs.Writes.{Content, shown_in}
use Rattle.history.proofs.Laws.{in_array-split, some_inj}
use Rattle.stack_driver.specs.Targets.{outwards}
use Rattle.transaction_cells.specs.Casting.{casts_at}
use Rattle.transaction_cells.specs.Lanes.{LaneSeen}
use Rattle.transaction_cells.specs.Sites.{Site, pairs_at}
use Rattle.transaction_cells.proofs.Laws.{inside_in_chunk}
use Rattle.version_store.specs.Kept.{place_in, IsCellOf}
use Rattle.version_store.specs.Shown.{AreAskedOf}
use Rattle.version_store.specs.Asked as told
use Rattle.version_store.specs.Ids.{id_of}
use Rattle.event_replay.specs.Demands.{cell_of}
use Rattle.event_replay.specs.Placed.{asked_cell, IsShownAt, AreShownIn, AreShown}
use Rattle.event_replay.proofs.Places.{value_at, rest_at}
use Rattle.event_replay.proofs.Sites.{IsSiteOf, is_in_chunk}

-- the words of a view are shown where each cell's is
pub shown_words : (content : Content) (sites : List Site) (words : List ℕ) → length words ≡ length sites
    → (map Some words ≡ map (shown_in content) (map (λ (s : Site). Ok s.target) sites)) ↔ AreShown content sites words
shown_words content [] [] count = (λ same. tt, λ all. refl)
shown_words content [] (word ∷ words) count = absurd (let no_such : ⊥ = cc in no_such)
shown_words content (s ∷ sites) [] count = absurd (let no_such : ⊥ = cc in no_such)
shown_words content (s ∷ sites) (word ∷ words) count =
    let rest = shown_words content sites words (let same : length words ≡ length sites = cc in same) in (
      λ same. (sym (ap (λ (xs : List (Option ℕ)). get_or xs 0 None) same), rest.0 (ap (λ (xs : List (Option ℕ)). drop 1 xs) same)),
      λ all. (λ i. sym all.0 i ∷ rest.1 all.1 i),
    )

-- where each cell's is, those of each chunk are; and back, where the chunks have all cells
pub shown_one : (content : Content) (id : List ℕ) (sites : List Site) (words : List ℕ) → AreShown content sites words → AreShownIn content id sites words
shown_one content id [] words all = tt
shown_one content id (s ∷ sites) [] all = tt
shown_one content id (s ∷ sites) (word ∷ words) all = (λ same. all.0, shown_one content id sites words all.1)

pub shown_each : (content : Content) (ids : List (List ℕ)) (sites : List Site) (words : List ℕ) → AllByRecursion (λ (s : Site). Contains ids s.id) sites
    → ((id : List ℕ) → Contains ids id → AreShownIn content id sites words) → AreShown content sites words
shown_each content ids [] words there all = tt
shown_each content ids (s ∷ sites) [] there all = tt
shown_each content ids (s ∷ sites) (word ∷ words) there all =
    ((all s.id there.0).0 ((bytes_eq-Decides s.id s.id).1 refl), shown_each content ids sites words there.1 (λ id in_ids. (all id in_ids).1))

-- from this place on leaves and words are those of the cells, and each leaf's casts are there
abbrev pub AreAsked : List ℕ → List ℕ → List (List Cast) → ℕ → List Site → List ℕ → Type 0
AreAsked leaves all casts at [] words = Unit {0}
AreAsked leaves all casts at (s ∷ sites) [] = ⊥
AreAsked leaves all casts at (s ∷ sites) (word ∷ words) =
    (slice_index all at ≡ word) × (slice_index leaves at < length casts) × (get_or casts (slice_index leaves at) [] ≡ s.target.casts) × AreAsked leaves all casts (at + 1) sites words

pub casts_of_lane : (lanes : List LaneSeen) (leaf : ℕ) → get_or (map (λ (lane : LaneSeen). lane.casts) lanes) leaf [] ≡ casts_at lanes leaf
casts_of_lane [] zero = refl
casts_of_lane [] (suc leaf) = refl
casts_of_lane (lane ∷ lanes) zero = refl
casts_of_lane (lane ∷ lanes) (suc leaf) = casts_of_lane lanes leaf

pub lane_count : (lanes : List LaneSeen) → length (map (λ (lane : LaneSeen). lane.casts) lanes) ≡ length lanes
lane_count [] = refl
lane_count (lane ∷ lanes) = ap suc (lane_count lanes)

pub asked_of : (casts : List (List Cast)) (leaves all : List ℕ) (at : ℕ) (ls : List ℕ) (sites : List Site) (words : List ℕ) → map (λ (s : Site). s.target.casts) sites ≡ map (λ leaf. get_or casts leaf []) ls
    → AllByRecursion (λ leaf. leaf < length casts) ls → drop at leaves ≡ ls → drop at all ≡ words → length words ≡ length sites → AreAsked leaves all casts at sites words
asked_of casts leaves all at ls [] words through has here rest count = tt
asked_of casts leaves all at ls (s ∷ sites) [] through has here rest count = absurd (let no_such : ⊥ = cc in no_such)
asked_of casts leaves all at [] (s ∷ sites) (word ∷ words) through has here rest count = absurd (let no_such : ⊥ = cc in no_such)
asked_of casts leaves all at (leaf ∷ ls) (s ∷ sites) (word ∷ words) through has here rest count =
    let is = value_at leaves at leaf ls here in
    let low : leaf < length casts = has.0 in
    let one : s.target.casts ≡ get_or casts leaf [] = ap (λ (xs : List (List Cast)). get_or xs 0 []) through in (
      value_at all at word words rest,
      omega (arith, is, low),
      ap (λ n. get_or casts n []) is ∙ sym one,
      asked_of casts leaves all (at + 1) ls sites words (ap (λ (xs : List (List Cast)). drop 1 xs) through) has.1 (rest_at leaves at leaf ls here) (rest_at all at word words rest) (let same : length words ≡ length sites = cc in same),
    )

-- of a cell that lies in the chunk it is that cell
pub cell_found : (h : History) (k : Known) (c : Chunk) (s : Site) (asked : AskedCell) → IsSiteOf h s → known_after h c.array ≡ Some k → s.id ≡ id_of c → asked.place ≡ s.place → cell_of k c asked ≡ s.target.cell
cell_found h k c s asked site known same place =
    let heads = sym site.within.id ∙ same in
    let array : s.target.cell.array ≡ c.array = cc in
    let one : site.within.array ≡ k = some_inj site.within.array k (sym site.within.known ∙ ap (known_after h) array ∙ known) in
    let ns = chunk_shape k.info in
    let xs = s.target.cell.index in
    let index : c.index ≡ chunk_index ns xs = (let tails : chunk_index (chunk_shape site.within.array.info) xs ≡ c.index = cc in sym tails ∙ ap (λ (b : Known). chunk_index (chunk_shape b.info) xs) one) in
    let rank : length xs ≡ length ns = site.within.rank ∙ ap (λ (b : Known). length (chunk_shape b.info)) one in
    let shape : IsChunkShape ns = subst (λ (b : Known). IsChunkShape (chunk_shape b.info)) one site.within.shape in
    let at : asked.place ≡ c_place ns (within_chunk ns xs) = place ∙ (is_in_chunk h k c s site known same).place in
    let within : c_index ns asked.place ≡ within_chunk ns xs = ap (c_index ns) at ∙ c_index-c_place ns (within_chunk ns xs) (inside_in_chunk ns xs shape rank) in
    λ i. record { array = sym array i; index = ((λ j. in_array ns (index j) (within j)) ∙ in_array-split ns xs rank) i }

module _ (h : History) (k : Known) (c : Chunk) (id leaves all : List ℕ) (casts : List (List Cast)) (named : id ≡ id_of c) (known : known_after h c.array ≡ Some k) where
  -- what a read asks for of a piece is cells of its chunk
  pub asked_cells_of : (at : ℕ) (sites : List Site) → AllByRecursion (IsSiteOf h) sites → AreAskedOf h k c (cell_of k c) (map (asked_cell leaves all) (pairs_at id at sites))
  asked_cells_of at [] all_in = tt
  asked_cells_of at (s ∷ sites) all_in = by (bytes_eq s.id id) refl (asked_cells_of (at + 1) sites all_in.1) where
    by : (b : Bool) → bytes_eq s.id id ≡ b → AreAskedOf h k c (cell_of k c) (map (asked_cell leaves all) (pairs_at id (at + 1) sites))
        → AreAskedOf h k c (cell_of k c) (map (asked_cell leaves all) (cond b (record { view = at; chunk = s.place } ∷ pairs_at id (at + 1) sites) (pairs_at id (at + 1) sites)))
    by true is rest =
        let same = (bytes_eq-Decides s.id id).0 is ∙ named in
        let asked = asked_cell leaves all (record { view = at; chunk = s.place }) in
        let here : cell_of k c asked ≡ s.target.cell = cell_found h k c s asked all_in.0 known same refl in
        let inside = is_in_chunk h k c s all_in.0 known same in
        (record { cell = subst (IsCellOf h c) (sym here) inside.cell; place = inside.place ∙ ap (place_in k) (sym here) }, rest)
    by false is rest = rest

  -- through casts that are there
  pub asked_casts : (at : ℕ) (sites : List Site) (words : List ℕ) → AreAsked leaves all casts at sites words → AllByRecursion (HasCasts casts) (map (asked_cell leaves all) (pairs_at id at sites))
  asked_casts at [] words asked = tt
  asked_casts at (s ∷ sites) [] asked = absurd asked
  asked_casts at (s ∷ sites) (word ∷ words) asked = by (bytes_eq s.id id) (asked_casts (at + 1) sites words asked.3) where
    by : (b : Bool) → AllByRecursion (HasCasts casts) (map (asked_cell leaves all) (pairs_at id (at + 1) sites))
        → AllByRecursion (HasCasts casts) (map (asked_cell leaves all) (cond b (record { view = at; chunk = s.place } ∷ pairs_at id (at + 1) sites) (pairs_at id (at + 1) sites)))
    by true rest = (asked.1, rest)
    by false rest = rest

  -- they are shown where the view's words in the chunk are
  pub shown_of_piece : (content : Content) (at : ℕ) (sites : List Site) (words : List ℕ) → AllByRecursion (IsSiteOf h) sites → AreAsked leaves all casts at sites words
      → told.AreShownIn content casts (cell_of k c) (map (asked_cell leaves all) (pairs_at id at sites)) ↔ AreShownIn content id sites words
  shown_of_piece content at [] words all_in asked = (λ x. tt, λ x. tt)
  shown_of_piece content at (s ∷ sites) [] all_in asked = absurd asked
  shown_of_piece content at (s ∷ sites) (word ∷ words) all_in asked = by (bytes_eq s.id id) refl (shown_of_piece content (at + 1) sites words all_in.1 asked.3) where
    by : (b : Bool) → bytes_eq s.id id ≡ b → (told.AreShownIn content casts (cell_of k c) (map (asked_cell leaves all) (pairs_at id (at + 1) sites)) ↔ AreShownIn content id sites words)
        → told.AreShownIn content casts (cell_of k c) (map (asked_cell leaves all) (cond b (record { view = at; chunk = s.place } ∷ pairs_at id (at + 1) sites) (pairs_at id (at + 1) sites)))
        ↔ ((b ≡ true → IsShownAt content s word) × AreShownIn content id sites words)
    by true is rest =
        let same = (bytes_eq-Decides s.id id).0 is ∙ named in
        let one = asked_cell leaves all (record { view = at; chunk = s.place }) in
        let here : cell_of k c one ≡ s.target.cell = cell_found h k c s one all_in.0 known same refl in
        let shown : option_map (outwards (get_or casts (slice_index leaves at) [])) (content (cell_of k c one)) ≡ option_map (outwards s.target.casts) (content s.target.cell) =
        (λ i. option_map (outwards (asked.2 i)) (content (here i))) in (
          λ x. (λ e. sym shown ∙ x.0 ∙ ap Some asked.0, rest.0 x.1),
          λ y. (shown ∙ y.0 refl ∙ ap Some (sym asked.0), rest.1 y.1),
        )
    by false is rest = (λ x. (λ e. absurd (let no_such : ⊥ = cc in no_such), rest.0 x), λ y. rest.1 y.1)
