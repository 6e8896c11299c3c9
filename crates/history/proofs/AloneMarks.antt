-- The marks that a read of a session alone leaves: each chunk that it needs, at the present.
use Rattle.std.proofs.Common.{◌≡◌, ℕ, List, [], ◌∷◌, ◌++◌, length, map, Bool, true, false, cond, refl, sym, ap, subst, ◌∙◌, eq-eqb, arith}
use Rattle.std.specs.Prelude.{IsTrue, ◌||◌, ◌&&◌}
use Rattle.std.specs.List.{AllByRecursion, IsDistinct, list_any}
use Rattle.std.specs.Str.{bytes_eq}
use Rattle.std.proofs.lemmas.Slice.Eq.{bytes_eq-Decides}
use Rattle.stack_driver.specs.Targets.{Cell}
use Rattle.stack_driver.specs.declared.view.View.{View}
use Rattle.history.specs.History.{History}
use Rattle.history.specs.Chunks.{Chunk, is_chunk, chunk_of}
use Rattle.history.specs.Commit.{Transaction}
use Rattle.history.specs.Reads.{Marks, has_mark, unwritten}
use Rattle.history.specs.Shown.{IsMarkWithin, AreMarked}
use Rattle.history.proofs.Staged.{or_left, or_right}
use Rattle.history.proofs.Written.{same_chunks}

-- the chunks that have no mark yet, each once, at a number of events
abbrev fresh_marks : Marks → ℕ → List Chunk → Marks
fresh_marks old n [] = []
fresh_marks old n (c ∷ cs) = cond (has_mark old c || has_mark (fresh_marks old n cs) c) (fresh_marks old n cs) ((c, n) ∷ fresh_marks old n cs)

or_false : (a b : Bool) → (a || b) ≡ false → (a ≡ false) × (b ≡ false)
or_false true b is = absurd (cc)
or_false false b is = (refl, is)

module _ (old : Marks) (n : ℕ) where
  each_within : (cs : List Chunk) → AllByRecursion (IsMarkWithin n n) (fresh_marks old n cs)
  each_within [] = tt
  each_within (c ∷ cs) = told (has_mark old c || has_mark (fresh_marks old n cs) c) (each_within cs)
    where
      told : (b : Bool) → AllByRecursion (IsMarkWithin n n) (fresh_marks old n cs) → AllByRecursion (IsMarkWithin n n) (cond b (fresh_marks old n cs) ((c, n) ∷ fresh_marks old n cs))
      told true rest = rest
      told false rest = ((omega arith, omega arith), rest)

  each_new : (cs : List Chunk) → AllByRecursion (λ (m : Chunk × ℕ). has_mark old m.0 ≡ false) (fresh_marks old n cs)
  each_new [] = tt
  each_new (c ∷ cs) = told (has_mark old c || has_mark (fresh_marks old n cs) c) refl (each_new cs)
    where
      told : (b : Bool) → (has_mark old c || has_mark (fresh_marks old n cs) c) ≡ b → AllByRecursion (λ (m : Chunk × ℕ). has_mark old m.0 ≡ false) (fresh_marks old n cs)
          → AllByRecursion (λ (m : Chunk × ℕ). has_mark old m.0 ≡ false) (cond b (fresh_marks old n cs) ((c, n) ∷ fresh_marks old n cs))
      told true e rest = rest
      told false e rest = ((or_false (has_mark old c) (has_mark (fresh_marks old n cs) c) e).0, rest)

-- a chunk without a mark is none of those that have one
apart_from : (marks : Marks) (c : Chunk) → has_mark marks c ≡ false → AllByRecursion (λ d. is_chunk c d ≡ false) (map (λ (m : Chunk × ℕ). m.0) marks)
apart_from [] c none = tt
apart_from (m ∷ ms) c none = let parts = or_false (is_chunk m.0 c) (has_mark ms c) none in (turned (is_chunk c m.0) refl parts.0, apart_from ms c parts.1)
  where
    turned : (b : Bool) → is_chunk c m.0 ≡ b → is_chunk m.0 c ≡ false → is_chunk c m.0 ≡ false
    turned false e other = e
    turned true e other = let same : c ≡ m.0 = same_chunks c m.0 e in let clash : true ≡ false = sym e ∙ ap (λ d. is_chunk d m.0) same ∙ ap (is_chunk m.0) (sym same) ∙ other in absurd (cc)

each_once : (old : Marks) (n : ℕ) (cs : List Chunk) → IsDistinct is_chunk (map (λ (m : Chunk × ℕ). m.0) (fresh_marks old n cs))
unfolding IsDistinct
each_once old n [] = tt
each_once old n (c ∷ cs) = told (has_mark old c || has_mark (fresh_marks old n cs) c) refl (each_once old n cs)
  where
    told : (b : Bool) → (has_mark old c || has_mark (fresh_marks old n cs) c) ≡ b → IsDistinct is_chunk (map (λ (m : Chunk × ℕ). m.0) (fresh_marks old n cs))
        → IsDistinct is_chunk (map (λ (m : Chunk × ℕ). m.0) (cond b (fresh_marks old n cs) ((c, n) ∷ fresh_marks old n cs)))
    told true e rest = rest
    told false e rest = (apart_from (fresh_marks old n cs) c (or_false (has_mark old c) (has_mark (fresh_marks old n cs) c) e).1, rest)

same_chunk : (c : Chunk) → is_chunk c c ≡ true
same_chunk c = ap (λ b. b && bytes_eq c.index c.index) (eq-eqb c.array c.array refl) ∙ (bytes_eq-Decides c.index c.index).1 refl

has_both : (old fresh : Marks) (c : Chunk) → has_mark old c ≡ true → has_mark (old ++ fresh) c ≡ true
has_both [] fresh c has = absurd (cc)
has_both (m ∷ ms) fresh c has = told (is_chunk m.0 c) (has_both ms fresh c) has
  where
    told : (b : Bool) → (has_mark ms c ≡ true → has_mark (ms ++ fresh) c ≡ true) → (b || has_mark ms c) ≡ true → (b || has_mark (ms ++ fresh) c) ≡ true
    told true next e = refl
    told false next e = next e

has_later : (old fresh : Marks) (c : Chunk) → has_mark fresh c ≡ true → has_mark (old ++ fresh) c ≡ true
has_later [] fresh c has = has
has_later (m ∷ ms) fresh c has = or_right (is_chunk m.0 c) (has_mark (ms ++ fresh) c) (has_later ms fresh c has)

-- with them each chunk has a mark
all_marked : (old : Marks) (n : ℕ) (cs : List Chunk) → AllByRecursion (λ c. (has_mark old c || has_mark (fresh_marks old n cs) c) ≡ true) cs
all_marked old n [] = tt
all_marked old n (c ∷ cs) = (first (has_mark old c) (has_mark (fresh_marks old n cs) c) refl refl, grown cs (all_marked old n cs))
  where
    head_has : has_mark ((c, n) ∷ fresh_marks old n cs) c ≡ true
    head_has = or_left (is_chunk c c) (has_mark (fresh_marks old n cs) c) (same_chunk c)

    first : (a b : Bool) → has_mark old c ≡ a → has_mark (fresh_marks old n cs) c ≡ b → (has_mark old c || has_mark (fresh_marks old n (c ∷ cs)) c) ≡ true
    first true b p q = or_left (has_mark old c) (has_mark (fresh_marks old n (c ∷ cs)) c) p
    first false true p q = or_right (has_mark old c) (has_mark (fresh_marks old n (c ∷ cs)) c) (ap (λ t. has_mark (cond t (fresh_marks old n cs) ((c, n) ∷ fresh_marks old n cs)) c) (or_right (has_mark old c) (has_mark (fresh_marks old n cs) c) q) ∙ q)
    first false false p q = or_right (has_mark old c) (has_mark (fresh_marks old n (c ∷ cs)) c) (ap (λ t. has_mark (cond t (fresh_marks old n cs) ((c, n) ∷ fresh_marks old n cs)) c) (both_false (has_mark old c) (has_mark (fresh_marks old n cs) c) p q) ∙ head_has)
      where
        both_false : (a b : Bool) → a ≡ false → b ≡ false → (a || b) ≡ false
        both_false true b p q = absurd (cc)
        both_false false b p q = q

    more_has : (t : Bool) (d : Chunk) → has_mark (fresh_marks old n cs) d ≡ true → has_mark (cond t (fresh_marks old n cs) ((c, n) ∷ fresh_marks old n cs)) d ≡ true
    more_has true d has = has
    more_has false d has = or_right (is_chunk c d) (has_mark (fresh_marks old n cs) d) has

    either : (a b b2 : Bool) → (b ≡ true → b2 ≡ true) → (a || b) ≡ true → (a || b2) ≡ true
    either true b b2 more is = refl
    either false b b2 more is = more is

    grown : (ds : List Chunk) → AllByRecursion (λ d. (has_mark old d || has_mark (fresh_marks old n cs) d) ≡ true) ds → AllByRecursion (λ d. (has_mark old d || has_mark (fresh_marks old n (c ∷ cs)) d) ≡ true) ds
    grown [] all = tt
    grown (d ∷ ds) all = (either (has_mark old d) (has_mark (fresh_marks old n cs) d) (has_mark (fresh_marks old n (c ∷ cs)) d) (more_has (has_mark old c || has_mark (fresh_marks old n cs) c) d) all.0, grown ds all.1)

module _ (events : History) (old : Marks) (n : ℕ) where
  needed_more : (x : Cell) (xs : List Cell) (ms : Marks) → AllByRecursion (λ (m : Chunk × ℕ). IsTrue (list_any (λ y. is_chunk (chunk_of events y) m.0) xs)) ms → AllByRecursion (λ (m : Chunk × ℕ). IsTrue (list_any (λ y. is_chunk (chunk_of events y) m.0) (x ∷ xs))) ms
  needed_more x xs [] all = tt
  needed_more x xs (m ∷ ms) all = (or_right (is_chunk (chunk_of events x) m.0) (list_any (λ y. is_chunk (chunk_of events y) m.0) xs) all.0, needed_more x xs ms all.1)

  each_needed : (xs : List Cell) → AllByRecursion (λ (m : Chunk × ℕ). IsTrue (list_any (λ y. is_chunk (chunk_of events y) m.0) xs)) (fresh_marks old n (map (chunk_of events) xs))
  each_needed [] = tt
  each_needed (x ∷ xs) = told (has_mark old (chunk_of events x) || has_mark (fresh_marks old n (map (chunk_of events) xs)) (chunk_of events x)) (needed_more x xs (fresh_marks old n (map (chunk_of events) xs)) (each_needed xs))
    where
      told : (b : Bool) → AllByRecursion (λ (m : Chunk × ℕ). IsTrue (list_any (λ y. is_chunk (chunk_of events y) m.0) (x ∷ xs))) (fresh_marks old n (map (chunk_of events) xs))
          → AllByRecursion (λ (m : Chunk × ℕ). IsTrue (list_any (λ y. is_chunk (chunk_of events y) m.0) (x ∷ xs))) (cond b (fresh_marks old n (map (chunk_of events) xs)) ((chunk_of events x, n) ∷ fresh_marks old n (map (chunk_of events) xs)))
      told true rest = rest
      told false rest = (or_left (is_chunk (chunk_of events x) (chunk_of events x)) (list_any (λ y. is_chunk (chunk_of events y) (chunk_of events x)) xs) (same_chunk (chunk_of events x)), rest)

  each_has : (fresh : Marks) (xs : List Cell) → AllByRecursion (λ c. (has_mark old c || has_mark fresh c) ≡ true) (map (chunk_of events) xs) → AllByRecursion (λ x. IsTrue (has_mark (old ++ fresh) (chunk_of events x))) xs
  each_has fresh [] all = tt
  each_has fresh (x ∷ xs) all = (told (has_mark old (chunk_of events x)) (has_mark fresh (chunk_of events x)) refl refl all.0, each_has fresh xs all.1)
    where
      told : (a b : Bool) → has_mark old (chunk_of events x) ≡ a → has_mark fresh (chunk_of events x) ≡ b → (has_mark old (chunk_of events x) || has_mark fresh (chunk_of events x)) ≡ true → has_mark (old ++ fresh) (chunk_of events x) ≡ true
      told true b p q is = has_both old fresh (chunk_of events x) p
      told false true p q is = has_later old fresh (chunk_of events x) q
      told false false p q is = let clash : false ≡ true = sym q ∙ ap (λ t. t || has_mark fresh (chunk_of events x)) (sym p) ∙ is in absurd (cc)

-- the marks of a read that sees what happened up to now
pub marks_for : (events : History) (t : Transaction) (view : View) → Marks
marks_for events t view = t.marks ++ fresh_marks t.marks (length events) (map (chunk_of events) (unwritten t.ops view))

pub are_marked : (events : History) (seen : ℕ) (t : Transaction) (view : View) → seen ≡ length events → AreMarked events seen t view (marks_for events t view)
unfolding marks_for
are_marked events seen t view same =
    let xs = unwritten t.ops view in
    let n : ℕ = length events in
    let fresh : Marks = fresh_marks t.marks n (map (chunk_of events) xs) in
    record {
      fresh = fresh;
      marked = refl;
      within = subst (λ k. AllByRecursion (IsMarkWithin k n) fresh) (sym same) (each_within t.marks n (map (chunk_of events) xs));
      needed = each_needed events t.marks n xs;
      new = each_new t.marks n (map (chunk_of events) xs);
      once = each_once t.marks n (map (chunk_of events) xs);
      each = each_has events t.marks n fresh xs (all_marked t.marks n (map (chunk_of events) xs));
    }
