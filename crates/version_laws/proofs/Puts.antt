-- The words of a commit, put one after another.
use Rattle.std.proofs.Common.{◌≡◌, ◌≤◌, ◌⊎◌, inl, inr, ℕ, ◌+◌, List, [], ◌∷◌, ◌++◌, length, Bool, true, false, cond, Some, None, refl, sym, ap, subst, ◌∙◌, arith, le-leb, eq-eqb}
use Rattle.std.specs.Prelude.{◌==◌, ◌&&◌, ◌||◌, nat_le, fold, if◌then◌else◌, Contains}
use Rattle.std.specs.FinMap as finmap
use Rattle.std.specs.List.{list_any}
use Rattle.std.proofs.lemmas.Bool.{lt-leb}
use Rattle.std.proofs.lemmas.List.Sums.{fold-append}
use Rattle.std.proofs.lemmas.Slice.Eq.{bytes_eq-Decides}
use Rattle.std.specs.Str.{bytes_eq}
use Rattle.cells.proofs.Laws.{both_true, not_both, true_or_false}
use Rattle.history.specs.declared.event.Event.{Event}
use Rattle.history.specs.declared.event.Mode.{Mode}
use Rattle.history.specs.declared.event.Op.{Op}
use Rattle.history.specs.declared.event.Kind.TheVariants.{Done}
use Rattle.history.specs.Arrays.{Known, known_after, known_step}
use Rattle.history.specs.Chunks.{Chunk, is_chunk, chunk_of}
use Rattle.history.specs.Content.{world_after}
use Rattle.history.specs.Generations.{IsTouched}
use Rattle.history.specs.History.{History}
use Rattle.history.specs.Legal.{IsLegal}
use Rattle.history.specs.Targets.{Cell, is_cell}
use Rattle.history.specs.Touch.{touches, touches_by}
use Rattle.history.specs.Writes.{Content, Put, put, puts_of}
use Rattle.history.proofs.Laws.{known_after-more, same_cells}
use Rattle.chunk_versions.specs.Moments.{newest, touched}
use Rattle.chunk_versions.specs.Versions.{Versions, IsVersions, word_as_of}
use Rattle.version_laws.specs.Kept.{place_in, IsCellOf, AreVersionsOf, is_written, IsNext, ArePartVersionsOf}
use Rattle.version_laws.proofs.Cells.{array_known, cell_before, cell_inside, same_places}
use Rattle.version_laws.proofs.Later.{words_next, words_more, world_done}
use Rattle.version_laws.proofs.Touches.{touched_low, touched_longer, touched_last, touched_split, touched_cases, touched_keeps, touched_has, has_newest}

second_or : (a b : Bool) → b ≡ true → (a || b) ≡ true
second_or true b there = refl
second_or false b there = there

-- a test of one more at the end
last_any : (f : Put → Bool) (ps : List Put) (p : Put) → f p ≡ true → list_any f (ps ++ p ∷ []) ≡ true
last_any f [] p is = ap (λ b. b || false) is
last_any f (q ∷ ps) p is = second_or (f q) (list_any f (ps ++ p ∷ [])) (last_any f ps p is)

none_any : (f : Put → Bool) (ps : List Put) (p : Put) → f p ≡ false → list_any f (ps ++ p ∷ []) ≡ list_any f ps
none_any f [] p isnt = ap (λ b. b || false) isnt
none_any f (q ∷ ps) p isnt = ap (λ b. f q || b) (none_any f ps p isnt)

same_chunk : (c : Chunk) → is_chunk c c ≡ true
same_chunk c = both_true (c.array == c.array) (bytes_eq c.index c.index) (eq-eqb c.array c.array refl) ((bytes_eq-Decides c.index c.index).1 refl)

-- one put more at a cell
put_more : (f : Content) (ps : List Put) (p : Put) (x : Cell) → fold put f (ps ++ p ∷ []) x ≡ cond (is_cell p.0 x) (Some p.1) (fold put f ps x)
put_more f ps p x = ap (λ (g : Content). g x) (fold-append put f ps (p ∷ []))

-- no word is put yet
pub part_begun : (h : History) (k : Known) (c : Chunk) (v : Versions) → IsVersions v → AreVersionsOf h k c v → ArePartVersionsOf h k c [] v
part_begun h k c v is of = record {
  known = of.known;
  size = of.size;
  touched = λ n. (λ has. inl ((of.touched n).0 has), λ either. among n either);
  words = of.words;
  last = λ x cell. words_next h k c v is of x cell;
} where
  among : (n : ℕ) → IsTouched h c n ⊎ IsNext h c [] n → Contains v.touches n
  among n (inl t) = (of.touched n).1 t
  among n (inr next) = absurd (let clash : false ≡ true = next.1 in let no_such : ⊥ = cc in no_such)

-- the newest event that touched a chunk is no later than the next one
pub part_low : (h : History) (k : Known) (c : Chunk) (puts : List Put) (v : Versions) → IsVersions v → ArePartVersionsOf h k c puts v → newest v.touches ≤ length h + 1
part_low h k c puts v is of = by ((of.touched (newest v.touches)).0 (has_newest v.touches is.opened)) where
  by : IsTouched h c (newest v.touches) ⊎ IsNext h c puts (newest v.touches) → newest v.touches ≤ length h + 1
  by (inl t) = let low = touched_low h c (newest v.touches) t in omega (arith, low)
  by (inr next) = let at = next.0 in omega (arith, at)

-- a word that is put at a cell of another chunk
pub part_elsewhere : (h : History) (k : Known) (c : Chunk) (puts : List Put) (v : Versions) (p : Put) → is_chunk (chunk_of h p.0) c ≡ false → ArePartVersionsOf h k c puts v → ArePartVersionsOf h k c (puts ++ p ∷ []) v
part_elsewhere h k c puts v p other of = record {
  known = of.known;
  size = of.size;
  touched = λ n. (λ has. further n ((of.touched n).0 has), λ either. (of.touched n).1 (back n either));
  words = of.words;
  last = λ x cell. of.last x cell ∙ sym (put_more (world_after finmap.empty h) puts p x ∙ ap (λ b. cond b (Some p.1) (fold put (world_after finmap.empty h) puts x)) (apart x cell));
} where
  same : is_written h c (puts ++ p ∷ []) ≡ is_written h c puts
  same = none_any (λ q. is_chunk (chunk_of h q.0) c) puts p other

  further : (n : ℕ) → IsTouched h c n ⊎ IsNext h c puts n → IsTouched h c n ⊎ IsNext h c (puts ++ p ∷ []) n
  further n (inl t) = inl t
  further n (inr next) = inr (next.0, same ∙ next.1)

  back : (n : ℕ) → IsTouched h c n ⊎ IsNext h c (puts ++ p ∷ []) n → IsTouched h c n ⊎ IsNext h c puts n
  back n (inl t) = inl t
  back n (inr next) = inr (next.0, sym same ∙ next.1)

  apart : (x : Cell) → IsCellOf h c x → is_cell p.0 x ≡ false
  apart x cell = elim (true_or_false (is_cell p.0 x)) [
    | inl t ↦ not_both (is_chunk (chunk_of h p.0) c) (ap (λ d. is_chunk d c) (ap (chunk_of h) (same_cells p.0 x t) ∙ cell.chunk) ∙ same_chunk c) other
    | inr f ↦ f
  ]

-- a word that is put at a cell of the chunk, by the next event
pub part_put : (h : History) (k : Known) (c : Chunk) (puts : List Put) (old new : Versions) (p : Put) → IsLegal finmap.empty h → IsVersions old → IsCellOf h c p.0 → new.size ≡ old.size → new.touches ≡ touched (length h + 1) old.touches
    → ((m q : ℕ) → word_as_of new m q ≡ (if nat_le (length h + 1) m && q == place_in k p.0 then Some p.1 else word_as_of old m q)) → ArePartVersionsOf h k c puts old → ArePartVersionsOf h k c (puts ++ p ∷ []) new
part_put h k c puts old new p legal is there size touches_now words of = record {
  known = of.known;
  size = size ∙ of.size;
  touched = λ n. (λ has. further n (touched_cases (length h + 1) old.touches n (subst (λ ns. Contains ns n) touches_now has)), λ either. subst (λ ns. Contains ns n) (sym touches_now) (back n either));
  words = λ m low x cell.
      words m (place_in k x)
      ∙ ap (λ b. cond (b && place_in k x == place_in k p.0) (Some p.1) (word_as_of old m (place_in k x))) (lt-leb (length h + 1) m (omega (arith, low)))
      ∙ of.words m low x cell;
  last = λ x cell.
      words (length h + 1) (place_in k x)
      ∙ ap (λ b. cond (b && place_in k x == place_in k p.0) (Some p.1) (word_as_of old (length h + 1) (place_in k x))) (le-leb (length h + 1) (length h + 1) (omega arith))
      ∙ ap (λ b. cond b (Some p.1) (word_as_of old (length h + 1) (place_in k x))) (same_places h k c legal of.known x p.0 cell there)
      ∙ ap (λ o. cond (is_cell p.0 x) (Some p.1) o) (of.last x cell)
      ∙ sym (put_more (world_after finmap.empty h) puts p x);
} where
  written : is_written h c (puts ++ p ∷ []) ≡ true
  written = last_any (λ q. is_chunk (chunk_of h q.0) c) puts p (ap (λ d. is_chunk d c) there.chunk ∙ same_chunk c)

  onward : (n : ℕ) → IsTouched h c n ⊎ IsNext h c puts n → IsTouched h c n ⊎ IsNext h c (puts ++ p ∷ []) n
  onward n (inl t) = inl t
  onward n (inr next) = inr (next.0, written)

  further : (n : ℕ) → Contains old.touches n ⊎ (length h + 1 ≡ n) → IsTouched h c n ⊎ IsNext h c (puts ++ p ∷ []) n
  further n (inl has) = onward n ((of.touched n).0 has)
  further n (inr at) = inr (sym at, written)

  back : (n : ℕ) → IsTouched h c n ⊎ IsNext h c (puts ++ p ∷ []) n → Contains (touched (length h + 1) old.touches) n
  back n (inl t) = touched_keeps (length h + 1) old.touches n ((of.touched n).1 (inl t))
  back n (inr next) = subst (Contains (touched (length h + 1) old.touches)) (sym next.0) (touched_has (length h + 1) old.touches is.opened)

-- all words of a commit that is one event are put
pub part_done : (h : History) (e : Event) (k : Known) (c : Chunk) (line : ℕ) (mode : Mode) (ops : List Op) (v : Versions) → e.kind ≡ Done line mode ops None → ArePartVersionsOf h k c (puts_of ops) v → AreVersionsOf (h ++ e ∷ []) k c v
part_done h e k c line mode ops v kind of = record {
  known = later;
  size = of.size;
  touched = λ n. (λ has. further n ((of.touched n).0 has), λ t. (of.touched n).1 (back n (touched_split h e c n t)));
  words = words_more h e k c v (λ m low x cell. of.words m low x (before x cell)) (λ x cell. of.last x (before x cell) ∙ sym (done x (before x cell)));
} where
  later : known_after (h ++ e ∷ []) c.array ≡ Some k
  later = known_after-more h e c.array ∙ ap (λ act. known_step c.array h act (known_after h c.array)) kind ∙ of.known

  before : (x : Cell) → IsCellOf (h ++ e ∷ []) c x → IsCellOf h c x
  before x cell = cell_before h e k c of.known later x cell

  touch : touches h e c ≡ is_written h c (puts_of ops)
  touch = ap (λ act. touches_by h act c) kind

  further : (n : ℕ) → IsTouched h c n ⊎ IsNext h c (puts_of ops) n → IsTouched (h ++ e ∷ []) c n
  further n (inl t) = touched_longer h e c n t
  further n (inr next) = subst (IsTouched (h ++ e ∷ []) c) (sym next.0) (touched_last h e c (touch ∙ next.1))

  back : (n : ℕ) → IsTouched h c n ⊎ ((n ≡ length h + 1) × (touches h e c ≡ true)) → IsTouched h c n ⊎ IsNext h c (puts_of ops) n
  back n (inl t) = inl t
  back n (inr now) = inr (now.0, sym touch ∙ now.1)

  done : (x : Cell) → IsCellOf h c x → world_after finmap.empty (h ++ e ∷ []) x ≡ fold put (world_after finmap.empty h) (puts_of ops) x
  done x cell = world_done h e k line mode ops x kind (array_known h k c x cell of.known) (cell_inside h k c x cell of.known)
