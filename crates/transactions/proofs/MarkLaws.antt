-- What is prepared of the chunks that a transaction keeps.
use Rattle.std.proofs.Common.{◌≡◌, ◌∙◌, ℕ, zero, suc, Bool, true, false, cond, ◌||◌, ◌&&◌, List, [], ◌∷◌, ◌++◌, map, take, drop, Some, inl, inr, refl, sym, ap, subst, eq-eqb, arith}
use Rattle.std.specs.Prelude.{Contains}
use Rattle.std.specs.Cmp.Lexicographic.{nat_list_eq_equiv, slice_cmp}
use Rattle.std.specs.FinMap as finmap
use Rattle.std.specs.List.{AllByRecursion, IsDistinct}
use Rattle.std.specs.List.Sorted.{IsPermutation, IsSortedByKey}
use Rattle.std.specs.Ordering.{nat_cmp}
use Rattle.std.specs.Str.{bytes_eq}
use Rattle.std.proofs.lemmas.List.{take-append-drop, take-map}
use Rattle.std.proofs.lemmas.List.Elements.{All-from_recursion, Contains-append_right, recursion_from_All}
use Rattle.std.proofs.lemmas.List.Sorted.{All-permutation, Contains-permutation, IsPermutation-map}
use Rattle.std.proofs.lemmas.Map.Keys.{IsDistinct-IsPermutation, IsDistinct-head, IsDistinct-tail}
use Rattle.std.proofs.lemmas.Slice.Eq.{bytes_eq-Decides}
use Rattle.commits.specs.Prepared.{AreMarks, HasMark, IsMarkOf, WasReadAt}
use Rattle.commits.specs.declared.Mark.{Mark}
use Rattle.history.specs.Arrays.{Known, known_after}
use Rattle.history.specs.Chunks.{Chunk, IsIndexOf, chunk_key, is_chunk, key_in}
use Rattle.history.specs.Generations.{HasKey}
use Rattle.history.specs.History.{History}
use Rattle.history.specs.Legal.{IsLegal}
use Rattle.history.specs.Reads.{Marks, footprint_of, has_mark, mark_of}
use Rattle.history.specs.Touch.{generation_of}
use Rattle.history.specs.declared.array.ArrayInfo.{ArrayInfo}
use Rattle.history.proofs.Laws.{as_opened, key_is, known-longer, one_key, opened_itself, same_chunks}
use Rattle.commits.specs.Sorting.{key_of_mark}
use Rattle.commits.proofs.Laws.{rising_sorted}
use Rattle.chunk_fetches.specs.Agreement.{Opening}
use Rattle.chunk_fetches.specs.Outline.{outline, outlined_event}
use Rattle.chunk_fetches.proofs.Laws.{known-outline}
use Rattle.chunk_fetches.specs.Kept.{IsKeptIn, chunk_at}
use Rattle.transactions.specs.Conditions.{IsTxnIn}
use Rattle.transactions.specs.Marking.{mark_of_kept}
use Rattle.transactions.specs.Recording.{AreOfFootprint}
use Rattle.transactions.specs.Txn.{TxnSeen, marks_of, transaction_of}
use Rattle.chunk_fetches.specs.declared.kept.Kept.{Kept}

-- an array of some of the events is there after all of them, as it was opened
still_opened : (events : History) (n a : ℕ) (k : Known) → IsLegal finmap.empty (outline events) → known_after (take n events) a ≡ Some k → (l : Known) × (known_after events a ≡ Some l) × (l.info ≡ k.info) × (l.opened ≡ k.opened)
still_opened events n a k legal is =
    let all = outline events in
    let parts : take n all ++ drop n all ≡ all = take-append-drop n all in
    let early : known_after (take n all) a ≡ Some k = ap (λ h. known_after h a) (take-map outlined_event n events) ∙ known-outline a (take n events) ∙ is in
    let there = as_opened k.info k.opened (known_after (take n all ++ drop n all) a)
    (known-longer finmap.empty (take n all) a k.info k.opened (opened_itself (known_after (take n all) a) k early) (drop n all) (subst (IsLegal finmap.empty) (sym parts) legal)) in
    (there.0, sym (known-outline a events) ∙ ap (λ h. known_after h a) (sym parts) ∙ there.1, there.2, there.3)

same_key : (l k : Known) (index : List ℕ) → l.info ≡ k.info → l.opened ≡ k.opened → chunk_key l index ≡ chunk_key k index
same_key l k index info opened = (λ i. chunk_key (record { info = info i; opened = opened i; shape = [] }) index)

itself : (c : Chunk) → is_chunk c c ≡ true
itself c = ap (λ b. b && bytes_eq c.index c.index) (eq-eqb c.array c.array refl) ∙ nat_list_eq_equiv.refl c.index

all_from_map : {A B : Type 0} (f : A → B) (P : B → Type 0) (xs : List A) → AllByRecursion P (map f xs) → AllByRecursion (λ x. P (f x)) xs
all_from_map f P [] all = tt
all_from_map f P (x ∷ xs) all = (all.0, all_from_map f P xs all.1)

-- of marks of distinct chunks each is its chunk's own
own_mark : (marks : Marks) → IsDistinct is_chunk (map (λ (m : Chunk × ℕ). m.0) marks) → AllByRecursion (λ (m : Chunk × ℕ). mark_of marks m.0 ≡ m.1) marks
own_mark [] once = tt
own_mark (m ∷ ms) once =
    let chunks = map (λ (n : Chunk × ℕ). n.0) ms in
    (ap (λ b. cond b m.1 (mark_of ms m.0)) (itself m.0), rest ms (IsDistinct-head is_chunk m.0 chunks once) (own_mark ms (IsDistinct-tail is_chunk m.0 chunks once)))
  where
    rest : (ns : Marks) → AllByRecursion (λ c. is_chunk m.0 c ≡ false) (map (λ (n : Chunk × ℕ). n.0) ns) → AllByRecursion (λ (n : Chunk × ℕ). mark_of ms n.0 ≡ n.1) ns → AllByRecursion (λ (n : Chunk × ℕ). mark_of (m ∷ ms) n.0 ≡ n.1) ns
    rest [] apart own = tt
    rest (n ∷ ns) apart own = (ap (λ b. cond b m.1 (mark_of ms n.0)) apart.0 ∙ own.0, rest ns apart.1 own.1)

-- a mark among some, by whose key the chunk is known
has_among : (events : History) (c : Chunk) (marks : List Mark) (m : Mark) → HasKey events c m.key → Contains marks m → HasMark events c marks
has_among events c [] m has (k, low, is) = absurd (omega (arith, low))
has_among events c (n ∷ marks) m has (zero, low, is) = inl (subst (λ (x : Mark). HasKey events c x.key) (sym is) has)
has_among events c (n ∷ marks) m has (suc k, low, is) = inr (has_among events c marks m has (k, omega (arith, low), is))

module _ (opening : Opening) (events : History) (outlined : IsLegal finmap.empty (outline events)) where
  -- a chunk that is kept has its key after all events
  has_key : (k : Kept) → IsKeptIn opening events k → HasKey events (chunk_at k.id) k.key
  has_key k is =
      let c = chunk_at k.id in
      let then = is.chunk.array in
      let now = still_opened events k.mark c.array then outlined is.chunk.known in
      record {
        array = now.0;
        known = now.1;
        valid = subst (λ (info : ArrayInfo). IsIndexOf info c.index) (sym now.2) is.chunk.valid;
        named = ap (λ o. key_in o c) now.1 ∙ ap Some (same_key now.0 then c.index now.2 now.3 ∙ key_is (take k.mark events) c then k.key is.chunk.known is.key);
      }

  -- one key, one chunk
  one_chunk_kept : (k l : Kept) → IsKeptIn opening events k → IsKeptIn opening events l → k.key ≡ l.key → chunk_at k.id ≡ chunk_at l.id
  one_chunk_kept k l is other same =
      let c = chunk_at k.id in
      let d = chunk_at l.id in
      let one = has_key k is in
      let two = has_key l other in
      one_key finmap.empty (outline events) outlined c d one.array two.array k.key (known-outline c.array events ∙ one.known) (known-outline d.array events ∙ two.known) one.valid two.valid
      (ap (λ o. key_in o c) (known-outline c.array events) ∙ one.named) (ap (λ o. key_in o d) (known-outline d.array events) ∙ two.named ∙ ap Some (sym same))

  apart_keys : (k l : Kept) → IsKeptIn opening events k → IsKeptIn opening events l → is_chunk (chunk_at k.id) (chunk_at l.id) ≡ false → bytes_eq k.key l.key ≡ false
  apart_keys k l is other apart = by (bytes_eq k.key l.key) refl
    where
      by : (b : Bool) → bytes_eq k.key l.key ≡ b → bytes_eq k.key l.key ≡ false
      by false e = e
      by true e =
          let one = one_chunk_kept k l is other ((bytes_eq-Decides k.key l.key).0 e) in
          let clash : true ≡ false = sym (itself (chunk_at k.id)) ∙ ap (λ c. is_chunk (chunk_at k.id) c) one ∙ apart in
          absurd (let no_such : ⊥ = cc in no_such)

  -- chunks that are kept once have distinct keys
  distinct_keys : (kept : List Kept) → AllByRecursion (IsKeptIn opening events) kept → IsDistinct is_chunk (map (λ (m : Chunk × ℕ). m.0) (marks_of kept)) → IsDistinct bytes_eq (map key_of_mark (map mark_of_kept kept))
  unfolding IsDistinct
  distinct_keys [] all once = tt
  distinct_keys (k ∷ kept) all once = (each kept all.1 once.0, distinct_keys kept all.1 once.1)
    where
      each : (ls : List Kept) → AllByRecursion (IsKeptIn opening events) ls → AllByRecursion (λ c. is_chunk (chunk_at k.id) c ≡ false) (map (λ (m : Chunk × ℕ). m.0) (marks_of ls)) → AllByRecursion (λ key. bytes_eq k.key key ≡ false) (map key_of_mark (map mark_of_kept ls))
      each [] some apart = tt
      each (l ∷ ls) some apart = (apart_keys k l all.0 some.0 apart.0, each ls some.1 apart.1)

  -- the first chunk among some that are kept that is this one, whose mark is its
  record IsFirstOf (kept : List Kept) (c : Chunk) : Type 0 where
    pub first : Kept
    pub there : Contains (map mark_of_kept kept) (mark_of_kept first)
    pub same : chunk_at first.id ≡ c
    pub mark : mark_of (marks_of kept) c ≡ first.mark
    pub is : IsKeptIn opening events first

  -- a chunk that has a mark is kept
  first_of : (c : Chunk) (kept : List Kept) → AllByRecursion (IsKeptIn opening events) kept → has_mark (marks_of kept) c ≡ true → IsFirstOf kept c
  first_of c [] all is = absurd (let no_such : ⊥ = cc in no_such)
  first_of c (k ∷ kept) all is = by (is_chunk (chunk_at k.id) c) refl is (first_of c kept all.1)
    where
      by : (b : Bool) → is_chunk (chunk_at k.id) c ≡ b → (b || has_mark (marks_of kept) c) ≡ true → (has_mark (marks_of kept) c ≡ true → IsFirstOf kept c) → IsFirstOf (k ∷ kept) c
      by true here any rest = record {
        first = k;
        there = (zero, omega arith, refl);
        same = same_chunks (chunk_at k.id) c here;
        mark = ap (λ b. cond b k.mark (mark_of (marks_of kept) c)) here;
        is = all.0;
      }
      by false other any rest =
          let m = rest any in
          record {
            first = m.first;
            there = Contains-append_right (mark_of_kept k ∷ []) (map mark_of_kept kept) (mark_of_kept m.first) m.there;
            same = m.same;
            mark = ap (λ b. cond b k.mark (mark_of (marks_of kept) c)) other ∙ m.mark;
            is = m.is;
          }

  -- the marks of what is kept are those of the transaction
  module _ (t : TxnSeen) where
    is_mark : (k : Kept) → IsKeptIn opening events k → Contains (footprint_of events t.ops) (chunk_at k.id) → mark_of (marks_of t.kept) (chunk_at k.id) ≡ k.mark → IsMarkOf events (transaction_of t) (mark_of_kept k)
    is_mark k is was_read own = record {
      chunk = chunk_at k.id;
      has = has_key k is;
      was_read = was_read;
      generation = is.chunk.generation ∙ ap (λ n. generation_of (take n events) (chunk_at k.id)) (sym own);
    }

    are_each : (kept : List Kept) → AllByRecursion (IsKeptIn opening events) kept → AllByRecursion (λ (k : Kept). Contains (footprint_of events t.ops) (chunk_at k.id)) kept → AllByRecursion (λ (k : Kept). mark_of (marks_of t.kept) (chunk_at k.id) ≡ k.mark) kept
        → AllByRecursion (IsMarkOf events (transaction_of t)) (map mark_of_kept kept)
    are_each [] all needed own = tt
    are_each (k ∷ kept) all needed own = (is_mark k all.0 needed.0 own.0, are_each kept all.1 needed.1 own.1)

-- what is kept, as marks in the order of their keys, is what the commit prepares of the footprint
pub are_marks : (opening : Opening) (events : History) (t : TxnSeen) (marks : List Mark) → IsTxnIn opening events t → AreOfFootprint events (transaction_of t)
    → IsPermutation (map mark_of_kept t.kept) marks → IsSortedByKey key_of_mark (slice_cmp nat_cmp) marks → AreMarks events (transaction_of t) marks
are_marks opening events t marks txn footprint moved sorted =
    let made = map mark_of_kept t.kept in
    let pair : Kept → Chunk × ℕ = λ k. (chunk_at k.id, k.mark) in
    let needed = all_from_map pair (λ (m : Chunk × ℕ). Contains (footprint_of events t.ops) m.0) t.kept footprint.needed in
    let own = all_from_map pair (λ (m : Chunk × ℕ). mark_of (marks_of t.kept) m.0 ≡ m.1) t.kept (own_mark (marks_of t.kept) footprint.once) in
    let each = are_each opening events txn.outline t t.kept txn.kept needed own in
    let keys = IsDistinct-IsPermutation bytes_eq nat_list_eq_equiv.symm (map key_of_mark made) (map key_of_mark marks) (IsPermutation-map key_of_mark made marks moved) (distinct_keys opening events txn.outline t.kept txn.kept footprint.once) in
    record {
      each = recursion_from_All (IsMarkOf events (transaction_of t)) marks (All-permutation (IsMarkOf events (transaction_of t)) made marks moved (All-from_recursion (IsMarkOf events (transaction_of t)) made each));
      all = λ c has.
          let k = first_of opening events txn.outline c t.kept txn.kept (footprint.marked c has) in
          has_among events c marks (mark_of_kept k.first) (subst (λ d. HasKey events d k.first.key) k.same (has_key opening events txn.outline k.first k.is)) (Contains-permutation made marks (mark_of_kept k.first) moved k.there);
      sorted = rising_sorted key_of_mark marks sorted keys;
    }

-- each chunk of the footprint was read at its mark
pub was_read : (opening : Opening) (events : History) (t : TxnSeen) → IsTxnIn opening events t → AreOfFootprint events (transaction_of t) → (c : Chunk) → Contains (footprint_of events t.ops) c → WasReadAt events (transaction_of t) c
was_read opening events t txn footprint c has =
    let k = first_of opening events txn.outline c t.kept txn.kept (footprint.marked c has) in
    record {
      marked = footprint.marked c has;
      array = k.is.chunk.array;
      known = ap (λ n. known_after (take n events) c.array) k.mark ∙ ap (λ (d : Chunk). known_after (take k.first.mark events) d.array) (sym k.same) ∙ k.is.chunk.known;
    }
