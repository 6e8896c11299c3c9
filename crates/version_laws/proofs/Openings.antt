-- A new array.
use Rattle.std.proofs.Common.{◌≡◌, ◌<◌, ◌≤◌, ◌⊎◌, inl, inr, ℕ, ◌+◌, [], ◌∷◌, ◌++◌, length, take, true, false, cond, Option, Some, None, refl, sym, ap, subst, ◌∙◌, arith, le-leb, eq-eqb}
use Rattle.std.specs.Prelude.{nat_le, if◌then◌else◌, slice_index, Contains}
use Rattle.std.specs.FinMap as finmap
use Rattle.std.proofs.lemmas.Bool.{lt-leb}
use Rattle.cells.specs.Dense.{DenseCells}
use Rattle.cells.specs.Places.{cell_count, c_place}
use Rattle.cells.proofs.Laws.{c_place-lt}
use Rattle.history.specs.declared.array.ArrayInfo.{ArrayInfo}
use Rattle.history.specs.declared.array.Home.{Home}
use Rattle.history.specs.declared.array.Home.TheVariants.{Zarr, N5, Zarr3, Local}
use Rattle.history.specs.declared.event.Event.{Event}
use Rattle.history.specs.declared.event.Kind.TheVariants.{Opened}
use Rattle.history.specs.Arrays.{Known, known_after, chunk_shape, chunk_shape_in, is_local}
use Rattle.history.specs.Chunks.{Chunk, within_chunk}
use Rattle.history.specs.Content.{content_after, world_after, world_in, word_by}
use Rattle.history.specs.Generations.{IsTouched}
use Rattle.history.specs.History.{History}
use Rattle.history.specs.Legal.{IsLegal, IsLegalOpening, IsAsCells, IsAsKept}
use Rattle.history.specs.Plain.{new_word}
use Rattle.history.specs.Targets.{Cell}
use Rattle.history.specs.Touch.{touches, touches_by}
use Rattle.cells.specs.Shapes.{is_inside}
use Rattle.history.proofs.Laws.{legal_step, opening_of, opened_as, opened_then, known_below, known_still, none_is_none, content_touched, inside-from}
use Rattle.history.proofs.Outside.{opens_with}
use Rattle.history.proofs.Untouched.{opens_cell}
use Rattle.chunk_versions.specs.Versions.{Versions, word_as_of}
use Rattle.version_laws.specs.Kept.{place_in, IsCellOf, AreVersionsOf}
use Rattle.version_laws.proofs.Cells.{array_of, array_known, cell_inside, world_there, whole_place}
use Rattle.version_laws.proofs.Later.{words_more}
use Rattle.version_laws.proofs.Touches.{touched_last, touched_split, touched_there, one_of}

-- the words that are kept from an opening on: none before it, and behind it those of the new array
abbrev pub HaveNewWords : History → ArrayInfo → Versions → Type 0
HaveNewWords h info v =
    (m : ℕ) (x : Cell) → is_inside info.shape x.index ≡ true → word_as_of v m (place_in (opened_as h info) x) ≡ (if nat_le (length h + 1) m then new_word info info.home x else None)

-- there was no array of this number before
none_before : (h : History) (info : ArrayInfo) (a : ℕ) → IsLegal finmap.empty h → IsLegalOpening h info → info.number ≡ a → known_after h a ≡ None
none_before h info a legal opening number = by (known_after h a) refl where
  by : (known : Option Known) → known_after h a ≡ known → known ≡ None
  by None is = refl
  by (Some k) is =
      let low = known_below finmap.empty a h legal k is in
      let first = opening.number in
      absurd (omega (arith, low, first, number))

-- nor at any moment
none_then : (h : History) (a m : ℕ) → IsLegal finmap.empty h → known_after h a ≡ None → known_after (take m h) a ≡ None
none_then h a m legal none = by (known_after (take m h) a) refl where
  by : (known : Option Known) → known_after (take m h) a ≡ known → known ≡ None
  by None is = refl
  by (Some k) is = let still = known_still finmap.empty h a m k legal is in absurd (none_is_none still.0 (sym none ∙ still.1))

-- what is kept of a chunk of a new array, which has touched it alone
pub new_versions : (h : History) (e : Event) (info : ArrayInfo) (c : Chunk) (v : Versions) → IsLegal finmap.empty (h ++ e ∷ []) → e.kind ≡ Opened info → info.number ≡ c.array → v.size ≡ cell_count (chunk_shape info) → v.touches ≡ (length h + 1) ∷ [] → HaveNewWords h info v
    → AreVersionsOf (h ++ e ∷ []) (opened_as h info) c v
new_versions h e info c v legal kind number size opened words = record {
  known = now;
  size = size;
  touched = λ n. (λ has. subst (IsTouched (h ++ e ∷ []) c) (one_of (length h + 1) n (subst (λ ns. Contains ns n) opened has)) (touched_last h e c touch), λ t. subst (λ ns. Contains ns n) (sym opened) (among n (touched_split h e c n t)));
  words = words_more h e (opened_as h info) c v early late;
} where
  now : known_after (h ++ e ∷ []) c.array ≡ Some (opened_as h info)
  now = opened_then h e info c.array kind number

  lawful : IsLegal finmap.empty h
  lawful = (legal_step finmap.empty h e legal).0

  none : known_after h c.array ≡ None
  none = none_before h info c.array lawful (opening_of finmap.empty h e.kind info kind (legal_step finmap.empty h e legal).1) number

  touch : touches h e c ≡ true
  touch = ap (λ act. touches_by h act c) kind ∙ eq-eqb info.number c.array number

  among : (n : ℕ) → IsTouched h c n ⊎ ((n ≡ length h + 1) × (touches h e c ≡ true)) → Contains ((length h + 1) ∷ []) n
  among n (inl t) = absurd (touched_there h c n lawful t none)
  among n (inr last) = (0, omega arith, sym last.0)

  inside : (x : Cell) → IsCellOf (h ++ e ∷ []) c x → is_inside info.shape x.index ≡ true
  inside x cell = cell_inside (h ++ e ∷ []) (opened_as h info) c x cell now

  early : (m : ℕ) → m ≤ length h → (x : Cell) → IsCellOf (h ++ e ∷ []) c x → word_as_of v m (place_in (opened_as h info) x) ≡ world_after finmap.empty (take m h) x
  early m low x cell =
      let absent : known_after (take m h) x.array ≡ None = none_then h x.array m lawful (ap (known_after h) (array_of (h ++ e ∷ []) c x cell) ∙ none) in
      words m x (inside x cell)
      ∙ ap (λ b. cond b (new_word info info.home x) None) (lt-leb (length h + 1) m (omega (arith, low)))
      ∙ sym (ap (λ (o : Option Known). world_in o x (content_after finmap.empty (take m h) x)) absent)

  late : (x : Cell) → IsCellOf (h ++ e ∷ []) c x → word_as_of v (length h + 1) (place_in (opened_as h info) x) ≡ world_after finmap.empty (h ++ e ∷ []) x
  late x cell =
      let number_of : info.number ≡ x.array = number ∙ sym (array_of (h ++ e ∷ []) c x cell) in
      words (length h + 1) x (inside x cell)
      ∙ ap (λ b. cond b (new_word info info.home x) None) (le-leb (length h + 1) (length h + 1) (omega arith))
      ∙ sym (world_there (h ++ e ∷ []) (opened_as h info) x (array_known (h ++ e ∷ []) (opened_as h info) c x cell now) (inside x cell)
      ∙ content_touched finmap.empty h e x (opens_cell h e info x kind number_of)
      ∙ ap (λ act. word_by finmap.empty h act x (content_after finmap.empty h x)) kind
      ∙ opens_with (opened_as h info) x)

stored_new : (info : ArrayInfo) (home : Home) (x : Cell) → is_local home ≡ false → new_word info home x ≡ Some info.fill
stored_new info (Zarr mount path meta) x stored = refl
stored_new info (N5 mount path meta) x stored = refl
stored_new info (Zarr3 mount path meta) x stored = refl
stored_new info (Local start) x stored = absurd (let clash : true ≡ false = stored in let no_such : ⊥ = cc in no_such)

-- a new stored array has its fill at each place
pub stored_words : (h : History) (info : ArrayInfo) (v : Versions) → is_local info.home ≡ false → ((m place : ℕ) → word_as_of v m place ≡ (if nat_le (length h + 1) m then Some info.fill else None)) → HaveNewWords h info v
stored_words h info v stored words m x inside = words m (place_in (opened_as h info) x) ∙ ap (λ o. cond (nat_le (length h + 1) m) o None) (sym (stored_new info info.home x stored))

-- a new local array has its own words
pub local_words : (h : History) (info : ArrayInfo) (start : DenseCells) (v : Versions) → info.home ≡ Local start → IsAsKept info info.home → ((m place : ℕ) → place < length start.words → word_as_of v m place ≡ (if nat_le (length h + 1) m then Some (slice_index start.words place) else None))
    → HaveNewWords h info v
local_words h info start v home kept words m x inside =
    let cells : IsAsCells info start = subst (IsAsKept info) home kept in
    let there = inside-from info.shape x.index inside in
    let place : place_in (opened_as h info) x ≡ c_place start.shape x.index =
    ap (λ (at : Home). c_place (chunk_shape_in at info.shape) (within_chunk (chunk_shape_in at info.shape) x.index)) home
    ∙ whole_place info.shape x.index there
    ∙ ap (λ shape. c_place shape x.index) cells.shape in
    let own : is_inside start.shape x.index ≡ true = ap (λ shape. is_inside shape x.index) (sym cells.shape) ∙ inside in
    let low : c_place start.shape x.index < length start.words = (let below = c_place-lt start.shape x.index (inside-from start.shape x.index own) in omega (arith, below, cells.valid.full)) in
    ap (word_as_of v m) place
    ∙ words m (c_place start.shape x.index) low
    ∙ ap (λ o. cond (nat_le (length h + 1) m) o None)
    (sym (ap (λ (at : Home). new_word info at x) home ∙ ap (λ b. cond b (Some (slice_index start.words (c_place start.shape x.index))) None) own))
