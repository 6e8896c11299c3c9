-- Chunks by their indices, with the runs of the pairs so far.
use Rattle.std.proofs.Common.{◌≡◌, ◌∙◌, ℕ, ◌+◌, Bool, true, false, cond, List, [], ◌∷◌, ◌++◌, length, map, Some, None, refl, sym, ap, subst, inl, inr, ◌⊎◌, IfSome, Result, Ok, Err, IfOk}
use Rattle.std.specs.List.{list_any, AllByRecursion}
use Rattle.std.specs.Str.{bytes_eq}
use Rattle.std.specs.Map.{keys_of, lookup}
use Rattle.std.specs.BTreeMap.{insert_entry, is_at, keys, IsOrdered, WritesThrough, Updates}
use Rattle.std.specs.Prelude.{IsSome}
use Rattle.std.specs.declared.cmp.Ordering.{Ordering}
use Rattle.std.specs.declared.cmp.Ordering.TheVariants.{Less, Equal, Greater}
use Rattle.std.specs.Ordering.{is_lt, is_eq, nat_cmp, match_ordering}
use Rattle.std.specs.Cmp.Lexicographic.{slice_cmp, on_texts}
use Rattle.std.proofs.lemmas.Slice.Eq.{bytes_eq-Decides}
use Rattle.std.proofs.lemmas.Map.Text.{is_eq-slice_cmp}
use Rattle.std.proofs.lemmas.Map.Views.{All-found}
use Rattle.std.proofs.lemmas.List.Elements.{recursion_from_All}
use Rattle.std.proofs.lemmas.List.{append-nil, length-append}
use Rattle.chunk_grid.specs.declared.piece.RunPiece.{RunPiece}
use Rattle.chunk_grid.specs.Grid.{chunk_index, place_within}
use Rattle.chunk_grid.specs.Pieces.{Pair, pairs_in, placed, among}
use Rattle.chunk_grid.specs.Runs.{run_pieces}
use Rattle.strided_runs.specs.Growing.{Grown, first_run, grown}
use Rattle.chunk_grid.specs.Cuts.{Key, Cuts, by_key, at, chunks_of, with_pair, grown_of, IsUpTo, AreCuts, piece_of}
use Rattle.chunk_grid.proofs.PieceLaws.{pairs_in-more, touched-more, run_piece, run_pieces-are}
use Rattle.strided_runs.proofs.Laws.{runs-grown_of, grown_of-more, up_to-more, up_to-later}

true_or_false : (b : Bool) → (b ≡ true) ⊎ (b ≡ false)
true_or_false true = inl refl
true_or_false false = inr refl

abbrev Entries : Type 0
Entries = List (Key × Grown)

abbrev indices : Entries → List (List ℕ)
indices es = map (λ key. key.items) (keys_of es)

-- a chunk that isn't there goes to its place
apart_of : (key : Key) (e : Key × Grown) (es : Entries) → lookup (is_at (by_key key)) (e ∷ es) ≡ None → (is_eq (by_key key e.0) ≡ false) × (lookup (is_at (by_key key)) es ≡ None)
apart_of key e es h = told (is_eq (by_key key e.0)) refl h
  where
    told : (b : Bool) → is_eq (by_key key e.0) ≡ b → cond b (Some e.1) (lookup (is_at (by_key key)) es) ≡ None → (is_eq (by_key key e.0) ≡ false) × (lookup (is_at (by_key key)) es ≡ None)
    told true t h = absurd (cc)
    told false t h = (t, h)

none_among : (key : Key) (es : Entries) → lookup (is_at (by_key key)) es ≡ None → list_any (bytes_eq key.items) (indices es) ≡ false
none_among key [] h = refl
none_among key (e ∷ es) h =
    let parts = apart_of key e es h in
    let other : bytes_eq key.items e.0.items ≡ false = sym (is_eq-slice_cmp key.items e.0.items) ∙ parts.0 in
    rw other (none_among key es parts.1)

inserted_by : (o : Ordering) (key : Key) (g : Grown) (e : Key × Grown) (es : Entries) → is_eq o ≡ false → indices (insert_entry by_key es key g) ≡ placed (indices es) key.items
    → indices (match_ordering o ((key, g) ∷ e ∷ es) ((e.0, g) ∷ es) (e ∷ insert_entry by_key es key g)) ≡ cond (is_lt o) (key.items ∷ e.0.items ∷ indices es) (e.0.items ∷ placed (indices es) key.items)
inserted_by Less key g e es f rest = refl
inserted_by Equal key g e es f rest = absurd (cc)
inserted_by Greater key g e es f rest = ap (λ cs. e.0.items ∷ cs) rest

inserted : (key : Key) (g : Grown) (es : Entries) → lookup (is_at (by_key key)) es ≡ None → indices (insert_entry by_key es key g) ≡ placed (indices es) key.items
inserted key g [] h = refl
inserted key g (e ∷ es) h =
    let parts = apart_of key e es h in
    inserted_by (by_key key e.0) key g e es parts.0 (inserted key g es parts.1)

pub chunks-inserted : (old new : Cuts) (key : Key) (g : Grown) → at old key ≡ None → new.entries ≡ insert_entry by_key old.entries key g
    → chunks_of new ≡ among (chunks_of old) key.items
chunks-inserted old new key g absent entries =
    ap indices entries ∙ inserted key g old.entries absent
    ∙ sym (ap (λ b. cond b (indices old.entries) (placed (indices old.entries) key.items)) (none_among key old.entries absent))

-- a chunk that is there stays
some_among : (key : Key) (g : Grown) (es : Entries) → lookup (is_at (by_key key)) es ≡ Some g → list_any (bytes_eq key.items) (indices es) ≡ true
some_among key g [] h = absurd (cc)
some_among key g (e ∷ es) h = told (is_eq (by_key key e.0)) refl h (λ r. some_among key g es r)
  where
    told : (b : Bool) → is_eq (by_key key e.0) ≡ b → cond b (Some e.1) (lookup (is_at (by_key key)) es) ≡ Some g
        → (lookup (is_at (by_key key)) es ≡ Some g → list_any (bytes_eq key.items) (indices es) ≡ true) → list_any (bytes_eq key.items) (indices (e ∷ es)) ≡ true
    told true t h rest = let same : bytes_eq key.items e.0.items ≡ true = sym (is_eq-slice_cmp key.items e.0.items) ∙ t in rw same refl
    told false t h rest = let other : bytes_eq key.items e.0.items ≡ false = sym (is_eq-slice_cmp key.items e.0.items) ∙ t in rw other (rest h)

pub chunks-kept : (old new : Cuts) (key : Key) (g : Grown) → at old key ≡ Some g → keys new ≡ keys old → chunks_of new ≡ among (chunks_of old) key.items
chunks-kept old new key g there same =
    ap (map (λ k. k.items)) same
    ∙ sym (ap (λ b. cond b (indices old.entries) (placed (indices old.entries) key.items)) (some_among key g old.entries there))

-- look-ups by keys of one text
pub at_same : (cuts : Cuts) (a b : Key) → a.items ≡ b.items → at cuts a ≡ at cuts b
at_same cuts a b e = ap (λ xs. lookup (λ k. is_eq (slice_cmp nat_cmp xs k.items)) cuts.entries) e

-- one index vector more
module _ (chunk : List ℕ) (targets : List (List ℕ)) (x c : List ℕ) (p : Pair) (old new : Cuts) where
  more_at : (q : Key) (b : Bool) → at old q ≡ grown_of (pairs_in chunk q.items targets)
      → cond b (Some (with_pair p (at old q))) (at old q) ≡ grown_of (pairs_in chunk q.items targets ++ cond b (p ∷ []) [])
  more_at q true e = ap (λ g. Some (with_pair p g)) e ∙ sym (grown_of-more (pairs_in chunk q.items targets) p)
  more_at q false e = e ∙ ap grown_of (sym (append-nil (pairs_in chunk q.items targets)))

  later_at : (q : Key) (b : Bool) → p.view ≡ length targets → IfSome (at old q) (IsUpTo (length targets))
      → IfSome (cond b (Some (with_pair p (at old q))) (at old q)) (IsUpTo (length targets + 1))
  later_at q true e h = subst (λ n. IsUpTo (n + 1) (with_pair p (at old q))) e (up_to-more (at old q) p (subst (λ n. IfSome (at old q) (IsUpTo n)) (sym e) h))
  later_at q false e h = up_to-later (at old q) (length targets) h

  pub AreCuts-more : c ≡ chunk_index chunk x → p ≡ record { view = length targets; chunk = place_within chunk x }
      → ((q : Key) → at new q ≡ cond (bytes_eq c q.items) (Some (with_pair p (at old q))) (at old q))
      → chunks_of new ≡ among (chunks_of old) c
      → AreCuts chunk targets old → AreCuts chunk (targets ++ x ∷ []) new
  AreCuts-more is pair puts chunks h = record {
    chunks = chunks ∙ (λ i. among (h.chunks i) (is i)) ∙ sym (touched-more chunk targets x);
    runs = λ q.
        puts q ∙ more_at q (bytes_eq c q.items) (h.runs q)
        ∙ ap grown_of (sym (pairs_in-more chunk q.items targets x ∙ (λ i. pairs_in chunk q.items targets ++ cond (bytes_eq (sym is i) q.items) (sym pair i ∷ []) [])));
    before = λ q.
        let one : length (targets ++ x ∷ []) ≡ length targets + 1 = length-append targets (x ∷ []) in
        let there : IfSome (cond (bytes_eq c q.items) (Some (with_pair p (at old q))) (at old q)) (IsUpTo (length targets + 1)) = later_at q (bytes_eq c q.items) (ap (λ (r : Pair). r.view) pair) (h.before q) in
        subst (λ n. IfSome (at new q) (IsUpTo n)) (sym one) (subst (λ o. IfSome o (IsUpTo (length targets + 1))) (sym (puts q)) there);
  }

-- at last
pieces_at : (chunk : List ℕ) (targets : List (List ℕ)) (cuts : Cuts) → AreCuts chunk targets cuts → (es : Entries) → AllByRecursion (λ e. at cuts e.0 ≡ Some e.1) es
    → map piece_of es ≡ map (run_piece chunk targets) (indices es)
pieces_at chunk targets cuts h [] found = refl
pieces_at chunk targets cuts h (e ∷ es) found =
    let runs = runs-grown_of (pairs_in chunk e.0.items targets) e.1 (sym (h.runs e.0) ∙ found.0) in
    let rest = pieces_at chunk targets cuts h es found.1 in
    λ i. record { chunk = e.0.items; runs = runs i } ∷ rest i

pub pieces-cut : (chunk : List ℕ) (targets : List (List ℕ)) (cuts : Cuts) → AreCuts chunk targets cuts → IsOrdered by_key cuts
    → map piece_of cuts.entries ≡ run_pieces chunk targets
pieces-cut chunk targets cuts h ordered =
    let found = recursion_from_All (λ (e : Key × Grown). at cuts e.0 ≡ Some e.1) cuts.entries (All-found (on_texts (λ (key : Key). key.items)) cuts ordered) in
    pieces_at chunk targets cuts h cuts.entries found
    ∙ ap (map (run_piece chunk targets)) h.chunks
    ∙ sym (run_pieces-are chunk targets)

-- a pair put behind those of its chunk
module _ (old new : Cuts) (key : Key) (p : Pair) where
  put_at : (g : Grown) (q : Key) → g ≡ with_pair p (at old key) → (b : Bool) → bytes_eq key.items q.items ≡ b
      → cond b (Some g) (at old q) ≡ cond b (Some (with_pair p (at old q))) (at old q)
  put_at g q is true e =
      let same : key.items ≡ q.items = (bytes_eq-Decides key.items q.items).0 e in
      ap Some (is ∙ ap (with_pair p) (at_same old key q same))
  put_at g q is false e = refl

  -- what each look-up finds then
  abbrev pub IsPut : Type 0
  IsPut = (q : Key) → at new q ≡ cond (bytes_eq key.items q.items) (Some (with_pair p (at old q))) (at old q)

  is_put : (g : Grown) → g ≡ with_pair p (at old key) → ((q : Key) → at new q ≡ cond (is_at (by_key key) q) (Some g) (at old q)) → IsPut
  is_put g is puts = λ q.
      puts q ∙ ap (λ b. cond b (Some g) (at old q)) (is_eq-slice_cmp key.items q.items) ∙ put_at g q is (bytes_eq key.items q.items) refl

  pub written-runs : (g w : Grown) → Some g ≡ at old key → w ≡ grown g p → WritesThrough by_key (by_key key) old w new → IsPut
  written-runs g w there is h =
      let found : IsSome (at old key) = subst IsSome there refl in
      is_put w (is ∙ ap (with_pair p) there) (h.3 found).0

  pub written-chunks : (g w : Grown) → Some g ≡ at old key → WritesThrough by_key (by_key key) old w new → chunks_of new ≡ among (chunks_of old) key.items
  written-chunks g w there h = chunks-kept old new key g (sym there) h.1

  module _ (mid : Cuts) (made : Key) (g : Grown) (same : mid ≡ old) (named : made.items ≡ key.items) (absent : at old key ≡ None) where
    pub inserted-runs : g ≡ first_run p → Updates by_key mid new made (Some g) → IsPut
    inserted-runs is h =
        is_put (first_run p) (sym (ap (with_pair p) absent))
        (λ q. h.0 q ∙ (λ i. cond (is_eq (slice_cmp nat_cmp (named i) q.items)) (Some (is i)) (at (same i) q)))

    pub inserted-chunks : new.entries ≡ insert_entry by_key mid.entries made g → chunks_of new ≡ among (chunks_of old) key.items
    inserted-chunks h =
        chunks-inserted mid new made g (at_same mid made key named ∙ ap (λ cuts. at cuts key) same ∙ absent) h
        ∙ (λ i. among (chunks_of (same i)) (named i))

-- the answer that is made of all
pub told_pieces : {E : Type 0} (r : Result (List RunPiece) E) (chunk : List ℕ) (done targets : List (List ℕ)) (cuts : Cuts) → AreCuts chunk done cuts → done ≡ targets
    → IfOk r (λ pieces. pieces ≡ map piece_of cuts.entries) → IsOrdered by_key cuts → IfOk r (λ pieces. pieces ≡ run_pieces chunk targets)
told_pieces (Ok pieces) chunk done targets cuts h all is ordered = is ∙ pieces-cut chunk done cuts h ordered ∙ ap (run_pieces chunk) all
told_pieces (Err e) chunk done targets cuts h all is ordered = tt
