-- One event more.
use Rattle.std.proofs.Common.{◌≡◌, ◌<◌, ◌≤◌, ◌⊎◌, inl, inr, ℕ, ◌+◌, List, [], ◌∷◌, ◌++◌, length, take, true, false, cond, Option, Some, None, sym, ap, ◌∙◌, arith}
use Rattle.std.specs.Prelude.{Contains}
use Rattle.std.specs.FinMap as finmap
use Rattle.std.proofs.lemmas.List.{length_push, take_all, take-append-le}
use Rattle.cells.proofs.Laws.{less_or_not, not_both, true_or_false}
use Rattle.history.specs.declared.event.Event.{Event}
use Rattle.history.specs.declared.event.Mode.{Mode}
use Rattle.history.specs.declared.event.Op.{Op}
use Rattle.history.specs.declared.event.Kind.TheVariants.{Done}
use Rattle.history.specs.Arrays.{Known, known_after, known_step}
use Rattle.history.specs.Chunks.{Chunk, chunk_of}
use Rattle.history.specs.Content.{content_after, world_after, world_in, word_by, cut_to, present_shape, word_outside}
use Rattle.history.specs.Generations.{IsTouched}
use Rattle.history.specs.History.{History}
use Rattle.history.specs.Targets.{Cell}
use Rattle.history.specs.Touch.{touches, touches_by, writes_chunk}
use Rattle.cells.specs.Shapes.{is_inside}
use Rattle.history.specs.Writes.{puts_of, written}
use Rattle.history.proofs.Laws.{known_after-more, content_touched, content_untouched, written-is, last_put, else_word, puts_elsewhere}
use Rattle.history.proofs.Written.{elsewhere}
use Rattle.chunk_versions.specs.Moments.{newest}
use Rattle.chunk_versions.specs.Versions.{Versions, IsVersions, word_as_of}
use Rattle.chunk_versions.proofs.Laws.{word_stays}
use Rattle.version_laws.specs.Kept.{place_in, IsCellOf, AreVersionsOf}
use Rattle.version_laws.proofs.Cells.{array_of, array_known, cell_before, world_there}
use Rattle.version_laws.proofs.Touches.{touched_low, touched_longer, touched_split, has_newest}

-- the newest event that touched a chunk is one of the history
pub newest_low : (h : History) (k : Known) (c : Chunk) (v : Versions) → IsVersions v → AreVersionsOf h k c v → newest v.touches ≤ length h
newest_low h k c v is of = touched_low h c (newest v.touches) ((of.touched (newest v.touches)).0 (has_newest v.touches is.opened))

-- at the moment behind the history the words are those right behind it
pub words_next : (h : History) (k : Known) (c : Chunk) (v : Versions) → IsVersions v → AreVersionsOf h k c v → (x : Cell) → IsCellOf h c x → word_as_of v (length h + 1) (place_in k x) ≡ world_after finmap.empty h x
words_next h k c v is of x cell =
    word_stays v is (place_in k x) (length h) (length h + 1) (newest_low h k c v is of) (omega arith)
    ∙ of.words (length h) (omega arith) x cell
    ∙ ap (λ g. world_after finmap.empty g x) (take_all (length h) h (omega arith))

-- the words at each moment of a history of one event more are those before it and those behind it
pub words_more : (h : History) (e : Event) (k : Known) (c : Chunk) (v : Versions)
    → ((m : ℕ) → m ≤ length h → (x : Cell) → IsCellOf (h ++ e ∷ []) c x → word_as_of v m (place_in k x) ≡ world_after finmap.empty (take m h) x)
    → ((x : Cell) → IsCellOf (h ++ e ∷ []) c x → word_as_of v (length h + 1) (place_in k x) ≡ world_after finmap.empty (h ++ e ∷ []) x)
    → (m : ℕ) → m ≤ length (h ++ e ∷ []) → (x : Cell) → IsCellOf (h ++ e ∷ []) c x → word_as_of v m (place_in k x) ≡ world_after finmap.empty (take m (h ++ e ∷ [])) x
words_more h e k c v early late m within x cell = by (less_or_not (length h) m) where
  by : (length h < m) ⊎ (m ≤ length h) → word_as_of v m (place_in k x) ≡ world_after finmap.empty (take m (h ++ e ∷ [])) x
  by (inr low) = early m low x cell ∙ ap (λ g. world_after finmap.empty g x) (sym (take-append-le m h (e ∷ []) low))
  by (inl high) =
      let size : length (h ++ e ∷ []) ≡ length h + 1 = length_push h e in
      let at : m ≡ length h + 1 = omega (arith, high, within, size) in
      ap (λ n. word_as_of v n (place_in k x)) at ∙ late x cell ∙ ap (λ g. world_after finmap.empty g x) (sym (take_all m (h ++ e ∷ []) (omega (arith, high, size))))

-- where no event touches the chunk, what is kept of it stays right
pub untouched_versions : (h : History) (e : Event) (k : Known) (c : Chunk) (v : Versions) → IsVersions v → touches h e c ≡ false → known_after (h ++ e ∷ []) c.array ≡ Some k → AreVersionsOf h k c v → AreVersionsOf (h ++ e ∷ []) k c v
untouched_versions h e k c v is untouched later of = record {
  known = later;
  size = of.size;
  touched = λ n. (λ has. touched_longer h e c n ((of.touched n).0 has), λ t. among n (touched_split h e c n t));
  words = words_more h e k c v (λ m low x cell. of.words m low x (before x cell)) (λ x cell. words_next h k c v is of x (before x cell) ∙ sym (stays x (before x cell)));
} where
  before : (x : Cell) → IsCellOf (h ++ e ∷ []) c x → IsCellOf h c x
  before x cell = cell_before h e k c of.known later x cell

  among : (n : ℕ) → IsTouched h c n ⊎ ((n ≡ length h + 1) × (touches h e c ≡ true)) → Contains v.touches n
  among n (inl t) = (of.touched n).1 t
  among n (inr now) = not_both (touches h e c) now.1 untouched

  stays : (x : Cell) → IsCellOf h c x → world_after finmap.empty (h ++ e ∷ []) x ≡ world_after finmap.empty h x
  stays x cell =
      let was = array_known h k c x cell of.known in
      let array = array_of h c x cell in
      ap (λ (o : Option Known). world_in o x (content_after finmap.empty (h ++ e ∷ []) x)) (ap (known_after (h ++ e ∷ [])) array ∙ later ∙ sym was)
      ∙ ap (world_in (known_after h x.array) x) (content_untouched finmap.empty h e x (ap (touches h e) cell.chunk ∙ untouched))

-- a commit that is one event leaves at a cell what its operations put over the arrays before it
pub world_done : (h : History) (e : Event) (k : Known) (line : ℕ) (mode : Mode) (ops : List Op) (x : Cell) → e.kind ≡ Done line mode ops None → known_after h x.array ≡ Some k → is_inside k.shape x.index ≡ true
    → world_after finmap.empty (h ++ e ∷ []) x ≡ written ops (world_after finmap.empty h) x
world_done h e k line mode ops x kind known inside =
    world_there (h ++ e ∷ []) k x same inside
    ∙ elim (true_or_false (writes_chunk h ops (chunk_of h x))) [
      | inl t ↦
          content_touched finmap.empty h e x (here ∙ t)
          ∙ ap (λ act. word_by finmap.empty h act x (content_after finmap.empty h x)) kind
          ∙ cut
          ∙ written-is ops (λ y. content_after finmap.empty h x) x
          ∙ ap (else_word (last_put (puts_of ops) x)) (sym was)
          ∙ sym (written-is ops (world_after finmap.empty h) x)
      | inr f ↦ content_untouched finmap.empty h e x (here ∙ f) ∙ sym was ∙ sym (puts_elsewhere (puts_of ops) (world_after finmap.empty h) x (elsewhere h x (puts_of ops) f))
    ] where
      same : known_after (h ++ e ∷ []) x.array ≡ Some k
      same = known_after-more h e x.array ∙ ap (λ act. known_step x.array h act (known_after h x.array)) kind ∙ known

      was : world_after finmap.empty h x ≡ content_after finmap.empty h x
      was = world_there h k x known inside

      here : touches h e (chunk_of h x) ≡ writes_chunk h ops (chunk_of h x)
      here = ap (λ act. touches_by h act (chunk_of h x)) kind

      cut : cut_to (known_after h x.array) (present_shape (known_after h x.array)) x (written ops (λ y. content_after finmap.empty h x) x) ≡ written ops (λ y. content_after finmap.empty h x) x
      cut =
          ap (λ (o : Option Known). cut_to o (present_shape o) x (written ops (λ y. content_after finmap.empty h x) x)) known
          ∙ ap (λ b. cond b (written ops (λ y. content_after finmap.empty h x) x) (word_outside k.info.home k.info.fill)) inside
