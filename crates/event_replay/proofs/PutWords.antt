-- Words that are put chunk by chunk.
use Rattle.std.proofs.Common.{◌≡◌, ◌∙◌, ℕ, zero, suc, ◌+◌, List, [], ◌∷◌, ◌++◌, length, map, filter, drop, get_or, append-nil, Bool, true, false, ◌||◌, cond, Some, refl, sym, ap, subst, arith}
use Rattle.std.specs.Prelude.{Contains}
use Rattle.std.specs.List.{AllByRecursion, flat_map, list_any}
use Rattle.std.specs.List.Sorted.{IsStrictlySortedBy}
use Rattle.std.specs.Ordering.{nat_cmp}
use Rattle.std.specs.Cmp.Lexicographic.{slice_cmp}
use Rattle.std.specs.Str.{bytes_eq}
use Rattle.std.proofs.lemmas.List.Elements.{filter-append}
use Rattle.std.proofs.lemmas.Slice.Eq.{bytes_eq-Decides}
use Rattle.cast_driver.specs.declared.cast.Cast.{Cast}
use Rattle.history.specs.Arrays.{Known, known_after}
use Rattle.history.specs.Chunks.{Chunk, chunk_of}
use Rattle.history.specs.History.{History}
use Rattle.history.specs.Writes.{Put}
use Rattle.stack_driver.specs.Targets.{inwards}
use Rattle.transaction_cells.specs.Casting.{casts_at, taken_back}
use Rattle.transaction_cells.specs.Lanes.{LaneSeen}
use Rattle.transaction_cells.specs.Pieces.{ids_of, ArePieces}
use Rattle.transaction_cells.specs.Sites.{Site, pairs_at}
use Rattle.transaction_cells.specs.declared.view_cells.Piece.{Piece}
use Rattle.transaction_cells.proofs.OperationLaws.{puts_at}
use Rattle.transaction_cells.proofs.WrittenLaws.{others_behind}
use Rattle.version_store.specs.Ids.{id_of}
use Rattle.version_store.specs.Ordered.{is_in, AreSameByChunks}
use Rattle.version_store.specs.Putting.{AreWordsOf}
use Rattle.event_replay.specs.Placed.{placed_word, AreKept}
use Rattle.event_replay.proofs.Sites.{IsSiteOf, id_is, is_in_chunk}
use Rattle.event_replay.proofs.Places.{value_at, rest_at}

-- a word is put into the chunk of this id
abbrev pub is_by : History → List ℕ → Put → Bool
is_by h id p = bytes_eq (id_of (chunk_of h p.0)) id

-- the words of a piece are those that the operation puts into its chunk
pub words_of_piece : (h : History) (k : Known) (c : Chunk) (id : List ℕ) (kept : List ℕ) (at : ℕ) (sites : List Site) (words : List ℕ) → id ≡ id_of c → known_after h c.array ≡ Some k
    → AllByRecursion (IsSiteOf h) sites → AreKept kept at sites words → length words ≡ length sites
    → AreWordsOf h k c (map (placed_word kept) (pairs_at id at sites)) (filter (is_by h id) (puts_at sites words))
words_of_piece h k c id kept at [] words named known all keeps count = tt
words_of_piece h k c id kept at (s ∷ sites) [] named known all keeps count = absurd (let no_such : ⊥ = cc in no_such)
words_of_piece h k c id kept at (s ∷ sites) (word ∷ words) named known all keeps count =
    let rest = words_of_piece h k c id kept (at + 1) sites words named known all.1 keeps.1 (let same : length words ≡ length sites = cc in same) in
    subst (λ b. AreWordsOf h k c (map (placed_word kept) (cond (bytes_eq s.id id) (record { view = at; chunk = s.place } ∷ pairs_at id (at + 1) sites) (pairs_at id (at + 1) sites)))
    (cond b ((s.target.cell, inwards s.target.casts word) ∷ filter (is_by h id) (puts_at sites words)) (filter (is_by h id) (puts_at sites words))))
    (ap (λ i. bytes_eq i id) (id_is h s all.0))
    (by (bytes_eq s.id id) refl rest)
  where
    by : (b : Bool) → bytes_eq s.id id ≡ b → AreWordsOf h k c (map (placed_word kept) (pairs_at id (at + 1) sites)) (filter (is_by h id) (puts_at sites words))
        → AreWordsOf h k c (map (placed_word kept) (cond b (record { view = at; chunk = s.place } ∷ pairs_at id (at + 1) sites) (pairs_at id (at + 1) sites)))
        (cond b ((s.target.cell, inwards s.target.casts word) ∷ filter (is_by h id) (puts_at sites words)) (filter (is_by h id) (puts_at sites words)))
    by true same rest =
        let inside = is_in_chunk h k c s all.0 known ((bytes_eq-Decides s.id id).0 same ∙ named) in
        (record { cell = inside.cell; place = inside.place; word = keeps.0 }, rest)
    by false other rest = rest

filter_same : {X : Type 0} (f : X → Bool) (xs : List X) → filter f (filter f xs) ≡ filter f xs
filter_same f [] = refl
filter_same f (x ∷ xs) = by (f x) refl (filter_same f xs) where
  by : (b : Bool) → f x ≡ b → filter f (filter f xs) ≡ filter f xs → filter f (cond b (x ∷ filter f xs) (filter f xs)) ≡ cond b (x ∷ filter f xs) (filter f xs)
  by true is rest = ap (λ b. cond b (x ∷ filter f (filter f xs)) (filter f (filter f xs))) is ∙ ap (λ l. x ∷ l) rest
  by false is rest = rest

filter_other : {X : Type 0} (f g : X → Bool) → ((x : X) → f x ≡ true → g x ≡ false) → (xs : List X) → filter g (filter f xs) ≡ []
filter_other f g clash [] = refl
filter_other f g clash (x ∷ xs) = by (f x) refl (filter_other f g clash xs) where
  by : (b : Bool) → f x ≡ b → filter g (filter f xs) ≡ [] → filter g (cond b (x ∷ filter f xs) (filter f xs)) ≡ []
  by true is rest = ap (λ b. cond b (x ∷ filter g (filter f xs)) (filter g (filter f xs))) (clash x is) ∙ rest
  by false is rest = rest

-- what is put into one chunk isn't put into another
apart : (h : History) (id other : List ℕ) → bytes_eq id other ≡ false → (p : Put) → is_by h id p ≡ true → is_by h other p ≡ false
apart h id other differ p is = ap (λ i. bytes_eq i other) ((bytes_eq-Decides (id_of (chunk_of h p.0)) id).0 is) ∙ differ

-- what operations put, piece by piece
abbrev pub by_pieces : History → List Put → List Piece → List Put
by_pieces h ps pieces = flat_map (λ (p : Piece). filter (is_by h p.id) ps) pieces

module _ (h : History) (ps : List Put) (id : List ℕ) where
  none_behind : (pieces : List Piece) → AllByRecursion (λ (p : Piece). bytes_eq p.id id ≡ false) pieces → filter (is_by h id) (by_pieces h ps pieces) ≡ []
  none_behind [] all = refl
  none_behind (q ∷ pieces) all =
      filter-append (is_by h id) (filter (is_by h q.id) ps) (by_pieces h ps pieces)
      ∙ (λ i. filter_other (is_by h q.id) (is_by h id) (apart h q.id id all.0) ps i ++ none_behind pieces all.1 i)

  one_of_pieces : (pieces : List Piece) → IsStrictlySortedBy (slice_cmp nat_cmp) (ids_of pieces) → filter (is_by h id) (by_pieces h ps pieces) ≡ cond (list_any (λ (p : Piece). bytes_eq p.id id) pieces) (filter (is_by h id) ps) []
  unfolding IsStrictlySortedBy
  one_of_pieces [] sorted = refl
  one_of_pieces (q ∷ pieces) sorted =
      filter-append (is_by h id) (filter (is_by h q.id) ps) (by_pieces h ps pieces)
      ∙ by (bytes_eq q.id id) refl (one_of_pieces pieces sorted.1)
    where
      by : (b : Bool) → bytes_eq q.id id ≡ b → filter (is_by h id) (by_pieces h ps pieces) ≡ cond (list_any (λ (p : Piece). bytes_eq p.id id) pieces) (filter (is_by h id) ps) []
          → filter (is_by h id) (filter (is_by h q.id) ps) ++ filter (is_by h id) (by_pieces h ps pieces) ≡ cond (b || list_any (λ (p : Piece). bytes_eq p.id id) pieces) (filter (is_by h id) ps) []
      by true is rest =
          let same : q.id ≡ id = (bytes_eq-Decides q.id id).0 is in
          let others = subst (λ i. AllByRecursion (λ (p : Piece). bytes_eq p.id i ≡ false) pieces) same (others_behind q.id pieces sorted.0) in
          (λ i. filter (is_by h id) (filter (is_by h (same i)) ps) ++ none_behind pieces others i)
          ∙ append-nil (filter (is_by h id) (filter (is_by h id) ps))
          ∙ filter_same (is_by h id) ps
      by false is rest = (λ i. filter_other (is_by h q.id) (is_by h id) (apart h q.id id is) ps i ++ rest i)

-- where none of the ids is another, no word is put into the chunk of that one
not_among : (pieces : List Piece) (id x : List ℕ) → list_any (λ (p : Piece). bytes_eq p.id id) pieces ≡ false → Contains (ids_of pieces) x → bytes_eq x id ≡ false
not_among [] id x none there = absurd (omega (arith, there.1))
not_among (p ∷ pieces) id x none (zero, lt, is) = subst (λ y. bytes_eq y id ≡ false) is (or_left (bytes_eq p.id id) (list_any (λ (q : Piece). bytes_eq q.id id) pieces) none)
  where
    or_left : (a b : Bool) → (a || b) ≡ false → a ≡ false
    or_left false b e = refl
    or_left true b e = e
not_among (p ∷ pieces) id x none (suc n, lt, is) = not_among pieces id x (or_right (bytes_eq p.id id) (list_any (λ (q : Piece). bytes_eq q.id id) pieces) none) (n, omega (arith, lt), is)
  where
    or_right : (a b : Bool) → (a || b) ≡ false → b ≡ false
    or_right false b e = e
    or_right true b e = absurd (let no_such : ⊥ = cc in no_such)

none_put : (h : History) (pieces : List Piece) (id : List ℕ) → list_any (λ (p : Piece). bytes_eq p.id id) pieces ≡ false → (sites : List Site) (words : List ℕ) → AllByRecursion (IsSiteOf h) sites
    → AllByRecursion (λ (s : Site). Contains (ids_of pieces) s.id) sites → filter (is_by h id) (puts_at sites words) ≡ []
none_put h pieces id none [] words all there = refl
none_put h pieces id none (s ∷ sites) [] all there = refl
none_put h pieces id none (s ∷ sites) (word ∷ words) all there =
    ap (λ b. cond b ((s.target.cell, inwards s.target.casts word) ∷ filter (is_by h id) (puts_at sites words)) (filter (is_by h id) (puts_at sites words)))
    (ap (λ i. bytes_eq i id) (sym (id_is h s all.0)) ∙ not_among pieces id s.id none there.0)
    ∙ none_put h pieces id none sites words all.1 there.1

-- chunk by chunk they are the same words
pub all_pieces : (h : History) (pieces : List Piece) (sites : List Site) (words : List ℕ) (puts : List Put) → ArePieces sites pieces → AllByRecursion (IsSiteOf h) sites
    → AreSameByChunks h (puts ++ by_pieces h (puts_at sites words) pieces) (puts ++ puts_at sites words)
all_pieces h pieces sites words puts are all c =
    filter-append (is_in h c) puts (by_pieces h (puts_at sites words) pieces)
    ∙ ap (λ l. filter (is_in h c) puts ++ l) (one_of_pieces h (puts_at sites words) (id_of c) pieces are.sorted ∙ by (list_any (λ (p : Piece). bytes_eq p.id (id_of c)) pieces) refl)
    ∙ sym (filter-append (is_in h c) puts (puts_at sites words))
  where
    by : (b : Bool) → list_any (λ (p : Piece). bytes_eq p.id (id_of c)) pieces ≡ b → cond b (filter (is_by h (id_of c)) (puts_at sites words)) [] ≡ filter (is_in h c) (puts_at sites words)
    by true is = refl
    by false is = sym (none_put h pieces (id_of c) is sites words all are.all)

-- the words that are kept for those of a view
pub kept_words : (lanes : List LaneSeen) (kept : List ℕ) (at : ℕ) (leaves : List ℕ) (sites : List Site) (words : List ℕ) → map (λ (s : Site). s.target.casts) sites ≡ map (casts_at lanes) leaves
    → drop at kept ≡ taken_back lanes leaves words → AreKept kept at sites words
kept_words lanes kept at leaves [] words casts is = tt
kept_words lanes kept at leaves (s ∷ sites) [] casts is = tt
kept_words lanes kept at [] (s ∷ sites) (word ∷ words) casts is = absurd (let no_such : ⊥ = cc in no_such)
kept_words lanes kept at (leaf ∷ leaves) (s ∷ sites) (word ∷ words) casts is =
    let one : s.target.casts ≡ casts_at lanes leaf = ap (λ (xs : List (List Cast)). get_or xs 0 []) casts in (
      value_at kept at (inwards (casts_at lanes leaf) word) (taken_back lanes leaves words) is ∙ ap (λ cs. inwards cs word) (sym one),
      kept_words lanes kept (at + 1) leaves sites words (ap (λ (xs : List (List Cast)). drop 1 xs) casts) (rest_at kept at (inwards (casts_at lanes leaf) word) (taken_back lanes leaves words) is),
    )
