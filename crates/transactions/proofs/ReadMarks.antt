-- The marks that a read leaves, and the chunks that it needs.
use Rattle.std.proofs.Common.{◌≡◌, ◌≢◌, ◌∙◌, ℕ, zero, suc, ◌+◌, ◌<◌, ◌≤◌, ◌||◌, Bool, true, false, cond, List, [], ◌∷◌, ◌++◌, length, map, Option, Some, None, refl, sym, ap, subst, arith}
use Rattle.std.specs.Prelude.{Contains}
use Rattle.std.specs.FinMap as finmap
use Rattle.std.specs.List.{AllByRecursion, IsDistinct, list_any}
use Rattle.std.specs.List.Sorted.{IsStrictlySortedBy}
use Rattle.std.specs.Cmp.Lexicographic.{slice_cmp}
use Rattle.std.specs.Ordering.{is_eq, nat_cmp}
use Rattle.std.specs.declared.cmp.Ordering.TheVariants.{Less}
use Rattle.std.specs.Str.{bytes_eq}
use Rattle.std.proofs.lemmas.Map.Text.{is_eq-slice_cmp}
use Rattle.std.proofs.lemmas.Slice.Eq.{bytes_eq-Decides}
use Rattle.history.specs.Chunks.{Chunk, chunk_of, is_chunk}
use Rattle.history.specs.Commit.{Transaction}
use Rattle.history.specs.History.{History}
use Rattle.history.specs.Reads.{Marks, has_mark, unwritten}
use Rattle.history.specs.Refusals.{IsNeeded}
use Rattle.history.specs.Shown.{AreMarked, IsMarkWithin}
use Rattle.history.specs.declared.event.Op.{Op}
use Rattle.history.proofs.Laws.{same_chunks}
use Rattle.stack_driver.specs.Targets.{Cell}
use Rattle.stack_driver.specs.declared.view.View.{View}
use Rattle.stack_targets.specs.Landings.{leaves_of}
use Rattle.chunk_fetches.specs.Agreement.{Opening}
use Rattle.chunk_fetches.specs.Needs.{needs}
use Rattle.chunk_fetches.specs.Operations.{AreStaged, HasSites, IsLeafIn}
use Rattle.chunk_fetches.specs.Pieces.{IsPiece, ids_of}
use Rattle.chunk_fetches.specs.Sites.{id_of, sites_of}
use Rattle.chunk_fetches.specs.Staging.{StagedChunk}
use Rattle.chunk_fetches.specs.declared.Piece.{Piece}
use Rattle.chunk_fetches.proofs.Laws.{needs_unwritten}
use Rattle.chunk_fetches.specs.Kept.{IsKeptIn, chunk_at, place_from}
use Rattle.chunk_fetches.specs.Fetched.{AreFetchedAt}
use Rattle.transactions.specs.Had.{AreHad}
use Rattle.chunk_fetches.specs.Sources.{is_new, new_pieces, source_at, source_of, sources_of}
use Rattle.transactions.specs.Txn.{TxnSeen, marks_of, transaction_of}
use Rattle.chunk_fetches.specs.declared.kept.Kept.{Kept}
use Rattle.chunk_fetches.specs.declared.source.Source.{Source}
use Rattle.chunk_fetches.specs.declared.source.Source.TheVariants.{Covered, Old, New}
use Rattle.chunk_fetches.proofs.Laws.{IsNamed}
use Rattle.transactions.proofs.HadLaws.{id_test, new_is, none_at}
use Rattle.transactions.proofs.ViewCellLaws.{IsCellOf, each_of, found_among, one_of, passes, any_of}

-- the id of a cell's chunk is that of a piece where the chunks are one
cell_test : (c : Chunk) (id : List ℕ) → IsNamed id → bytes_eq (id_of c) id ≡ is_chunk c (chunk_at id)
cell_test c id named = flip (id_of c) id ∙ id_test (id_of c) id refl named
  where
    flip : (xs ys : List ℕ) → bytes_eq xs ys ≡ bytes_eq ys xs
    flip xs ys = by (bytes_eq xs ys) refl
      where
        by : (b : Bool) → bytes_eq xs ys ≡ b → b ≡ bytes_eq ys xs
        by true e = sym ((bytes_eq-Decides ys xs).1 (sym ((bytes_eq-Decides xs ys).0 e)))
        by false e = other (bytes_eq ys xs) refl
          where
            other : (b : Bool) → bytes_eq ys xs ≡ b → false ≡ b
            other false f = refl
            other true f = let clash : true ≡ false = sym ((bytes_eq-Decides xs ys).1 (sym ((bytes_eq-Decides ys xs).0 f))) ∙ e in absurd (let no_such : ⊥ = cc in no_such)

same_any : (f g : Cell → Bool) (xs : List Cell) → ((x : Cell) → f x ≡ g x) → list_any f xs ≡ list_any g xs
same_any f g [] same = refl
same_any f g (x ∷ xs) same = (λ i. same x i || same_any f g xs same i)

-- a piece needs its chunk where a cell that no operation wrote lies in it
pub needs_chunk : (events : History) (v : View) (ops : List Op) (staged : List StagedChunk) (p : Piece) → AllByRecursion (IsLeafIn events) (leaves_of v) → HasSites v → IsPiece (sites_of v) p → AreStaged events ops staged → IsNamed p.id
    → needs staged p ≡ list_any (λ x. is_chunk (chunk_of events x) (chunk_at p.id)) (unwritten ops v)
needs_chunk events v ops staged p leaves has piece is named =
    needs_unwritten events v ops staged p leaves has piece is
    ∙ same_any (λ x. bytes_eq (id_of (chunk_of events x)) p.id) (λ x. is_chunk (chunk_of events x) (chunk_at p.id)) (unwritten ops v) (λ x. cell_test (chunk_of events x) p.id named)

-- so the history says that a read needs it
pub chunk_needed : (events : History) (t : Transaction) (v : View) (c : Chunk) → list_any (λ x. is_chunk (chunk_of events x) c) (unwritten t.ops v) ≡ true → IsNeeded events t v c
chunk_needed events t v c is =
    let some = passes (λ x. is_chunk (chunk_of events x) c) (unwritten t.ops v) is in
    let same : chunk_of events some.0 ≡ c = same_chunks (chunk_of events some.0) c some.2 in
    subst (λ d. Contains (map (chunk_of events) (unwritten t.ops v)) d) same (mapped (unwritten t.ops v) some.0 some.1)
  where
    mapped : (xs : List Cell) (x : Cell) → Contains xs x → Contains (map (chunk_of events) xs) (chunk_of events x)
    mapped [] x there = absurd (omega (arith, there.1))
    mapped (y ∷ xs) x (zero, lt, is) = (0, omega arith, ap (chunk_of events) is)
    mapped (y ∷ xs) x (suc k, lt, is) = let rest = mapped xs x (k, omega (arith, lt), is) in let below = rest.1 in (suc rest.0, omega (arith, below), rest.2)

-- pieces that are to be fetched need their chunks, which aren't kept
pub record IsNewTo (staged : List StagedChunk) (kept : List Kept) (p : Piece) : Type 0 where
  pub needed : needs staged p ≡ true
  pub unkept : place_from 0 kept p.id ≡ None

pub news_are : (staged : List StagedChunk) (kept : List Kept) (pieces : List Piece) → AllByRecursion (IsNewTo staged kept) (new_pieces (sources_of staged kept pieces) pieces)
news_are staged kept [] = tt
news_are staged kept (p ∷ pieces) = by (source_of staged kept p) refl (news_are staged kept pieces)
  where
    by : (s : Source) → source_of staged kept p ≡ s → AllByRecursion (IsNewTo staged kept) (new_pieces (sources_of staged kept pieces) pieces)
        → AllByRecursion (IsNewTo staged kept) (cond (is_new s) (p ∷ new_pieces (sources_of staged kept pieces) pieces) (new_pieces (sources_of staged kept pieces) pieces))
    by Covered e rest = rest
    by (Old place) e rest = rest
    by New e rest = let new = new_is (needs staged p) (place_from 0 kept p.id) e in (record { needed = new.0; unkept = new.1 }, rest)

-- what holds of each piece holds of those that are to be fetched
pub of_news : (P : Piece → Type 0) (sources : List Source) (pieces : List Piece) → AllByRecursion P pieces → AllByRecursion P (new_pieces sources pieces)
of_news P [] pieces all = tt
of_news P (s ∷ sources) [] all = tt
of_news P (s ∷ sources) (p ∷ pieces) all = by (is_new s) (of_news P sources pieces all.1)
  where
    by : (b : Bool) → AllByRecursion P (new_pieces sources pieces) → AllByRecursion P (cond b (p ∷ new_pieces sources pieces) (new_pieces sources pieces))
    by true rest = (all.0, rest)
    by false rest = rest

-- ids in order are those of different chunks
abbrev AreApart : List Piece → Type 0
AreApart pieces = IsDistinct bytes_eq (ids_of pieces)

apart_ids : (id : List ℕ) (pieces : List Piece) → AllByRecursion (λ y. slice_cmp nat_cmp id y ≡ Less) (ids_of pieces) → AllByRecursion (λ y. bytes_eq id y ≡ false) (ids_of pieces)
apart_ids id [] all = tt
apart_ids id (p ∷ pieces) all = (sym (is_eq-slice_cmp id p.id) ∙ ap is_eq all.0, apart_ids id pieces all.1)

pub sorted_apart : (pieces : List Piece) → IsStrictlySortedBy (slice_cmp nat_cmp) (ids_of pieces) → IsDistinct bytes_eq (ids_of pieces)
unfolding IsStrictlySortedBy IsDistinct
sorted_apart [] sorted = tt
sorted_apart (p ∷ pieces) sorted = (apart_ids p.id pieces sorted.0, sorted_apart pieces sorted.1)

news_apart : (id : List ℕ) (sources : List Source) (pieces : List Piece) → AllByRecursion (λ y. bytes_eq id y ≡ false) (ids_of pieces) → AllByRecursion (λ y. bytes_eq id y ≡ false) (ids_of (new_pieces sources pieces))
news_apart id [] pieces all = tt
news_apart id (s ∷ sources) [] all = tt
news_apart id (s ∷ sources) (p ∷ pieces) all = by (is_new s) (news_apart id sources pieces all.1)
  where
    by : (b : Bool) → AllByRecursion (λ y. bytes_eq id y ≡ false) (ids_of (new_pieces sources pieces)) → AllByRecursion (λ y. bytes_eq id y ≡ false) (ids_of (cond b (p ∷ new_pieces sources pieces) (new_pieces sources pieces)))
    by true rest = (all.0, rest)
    by false rest = rest

pub all_apart : (sources : List Source) (pieces : List Piece) → IsDistinct bytes_eq (ids_of pieces) → IsDistinct bytes_eq (ids_of (new_pieces sources pieces))
unfolding IsDistinct
all_apart [] pieces apart = tt
all_apart (s ∷ sources) [] apart = tt
all_apart (s ∷ sources) (p ∷ pieces) apart = by (is_new s) (all_apart sources pieces apart.1)
  where
    by : (b : Bool) → IsDistinct bytes_eq (ids_of (new_pieces sources pieces)) → IsDistinct bytes_eq (ids_of (cond b (p ∷ new_pieces sources pieces) (new_pieces sources pieces)))
    by true rest = (news_apart p.id sources pieces apart.0, rest)
    by false rest = rest

-- chunks that were fetched for pieces
module _ (opening : Opening) (seen : ℕ) (events : History) (mark : ℕ) where
  pub fetched_within : (pieces : List Piece) (fetched : List Kept) → seen ≤ mark → AreFetchedAt opening events mark pieces fetched → AllByRecursion (IsMarkWithin seen (length events)) (marks_of fetched)
  fetched_within [] [] since are = tt
  fetched_within [] (k ∷ fetched) since are = absurd are
  fetched_within (p ∷ pieces) [] since are = absurd are
  fetched_within (p ∷ pieces) (k ∷ fetched) since are =
      let at = are.0.at_mark in
      let within = are.0.kept.within in
      ((omega (arith, since, at), within), fetched_within pieces fetched since are.1)

  -- what holds of the chunks of pieces holds of the marks
  pub fetched_marks : (P : Chunk → Type 0) (pieces : List Piece) (fetched : List Kept) → AreFetchedAt opening events mark pieces fetched → AllByRecursion (λ (p : Piece). P (chunk_at p.id)) pieces → AllByRecursion (λ (m : Chunk × ℕ). P m.0) (marks_of fetched)
  fetched_marks P [] [] are all = tt
  fetched_marks P [] (k ∷ fetched) are all = absurd are
  fetched_marks P (p ∷ pieces) [] are all = absurd are
  fetched_marks P (p ∷ pieces) (k ∷ fetched) are all = (subst (λ id. P (chunk_at id)) (sym are.0.same) all.0, fetched_marks P pieces fetched are.1 all.1)

  others : (id : List ℕ) (pieces : List Piece) (fetched : List Kept) → IsNamed id → AllByRecursion (λ (p : Piece). IsNamed p.id) pieces → AreFetchedAt opening events mark pieces fetched → AllByRecursion (λ y. bytes_eq id y ≡ false) (ids_of pieces)
      → AllByRecursion (λ c. is_chunk (chunk_at id) c ≡ false) (map (λ (m : Chunk × ℕ). m.0) (marks_of fetched))
  others id [] [] named names are apart = tt
  others id [] (k ∷ fetched) named names are apart = absurd are
  others id (p ∷ pieces) [] named names are apart = absurd are
  others id (p ∷ pieces) (k ∷ fetched) named names are apart = (
    ap (λ xs. is_chunk (chunk_at id) (chunk_at xs)) are.0.same ∙ sym (cell_test (chunk_at id) p.id names.0) ∙ ap (λ xs. bytes_eq xs p.id) (sym named) ∙ apart.0,
    others id pieces fetched named names.1 are.1 apart.1,
  )

  pub fetched_once : (pieces : List Piece) (fetched : List Kept) → AllByRecursion (λ (p : Piece). IsNamed p.id) pieces → AreFetchedAt opening events mark pieces fetched → IsDistinct bytes_eq (ids_of pieces) → IsDistinct is_chunk (map (λ (m : Chunk × ℕ). m.0) (marks_of fetched))
  unfolding IsDistinct
  fetched_once [] [] names are apart = tt
  fetched_once [] (k ∷ fetched) names are apart = absurd are
  fetched_once (p ∷ pieces) [] names are apart = absurd are
  fetched_once (p ∷ pieces) (k ∷ fetched) names are apart = (
    subst (λ id. AllByRecursion (λ c. is_chunk (chunk_at id) c ≡ false) (map (λ (m : Chunk × ℕ). m.0) (marks_of fetched))) (sym are.0.same) (others p.id pieces fetched names.0 names.1 are.1 apart.0),
    fetched_once pieces fetched names.1 are.1 apart.1,
  )

-- the facts of new pieces, as the history has them
module _ (opening : Opening) (events : History) (v : View) (t : TxnSeen) (leaves : AllByRecursion (IsLeafIn events) (leaves_of v)) (has : HasSites v) (staged : AreStaged events t.ops t.staged) where
  pub each_needed : (pieces : List Piece) → AllByRecursion (IsPiece (sites_of v)) pieces → AllByRecursion (λ (p : Piece). IsNamed p.id) pieces → AllByRecursion (IsNewTo t.staged t.kept) pieces
      → AllByRecursion (λ (p : Piece). list_any (λ x. is_chunk (chunk_of events x) (chunk_at p.id)) (unwritten t.ops v) ≡ true) pieces
  each_needed [] is names news = tt
  each_needed (p ∷ pieces) is names news = (sym (needs_chunk events v t.ops t.staged p leaves has is.0 staged names.0) ∙ news.0.needed, each_needed pieces is.1 names.1 news.1)

  pub each_unmarked : (pieces : List Piece) → AllByRecursion (IsKeptIn opening events) t.kept → AllByRecursion (λ (p : Piece). IsNamed p.id) pieces → AllByRecursion (IsNewTo t.staged t.kept) pieces → AllByRecursion (λ (p : Piece). has_mark (marks_of t.kept) (chunk_at p.id) ≡ false) pieces
  each_unmarked [] all names news = tt
  each_unmarked (p ∷ pieces) all names news = ((none_at (IsKeptIn opening events) (λ k h. h.named) [] p.id names.0 0 t.kept all news.0.unkept).0, each_unmarked pieces all names.1 news.1)

  -- each piece with the id of a cell's chunk needs it
  pub each_needs : (x : Cell) (pieces : List Piece) → AllByRecursion (IsPiece (sites_of v)) pieces → Contains (unwritten t.ops v) x → AllByRecursion (λ (p : Piece). p.id ≡ id_of (chunk_of events x) → needs t.staged p ≡ true) pieces
  each_needs x [] is there = tt
  each_needs x (p ∷ pieces) is there = (
    λ same. needs_unwritten events v t.ops t.staged p leaves has is.0 staged
        ∙ any_of (λ y. bytes_eq (id_of (chunk_of events y)) p.id) (unwritten t.ops v) x there ((bytes_eq-Decides (id_of (chunk_of events x)) p.id).1 (sym same)),
    each_needs x pieces is.1 there,
  )

  -- each cell that no operation wrote has a chunk with a mark
  pub each_marked : (marks : Marks) (pieces : List Piece) (had : List (Option Kept)) → AllByRecursion (IsCellOf events pieces) (unwritten t.ops v) → AllByRecursion (IsPiece (sites_of v)) pieces → AreHad opening events t.staged marks pieces had
      → AllByRecursion (λ x. has_mark marks (chunk_of events x) ≡ true) (unwritten t.ops v)
  each_marked marks pieces had cells is are =
      each_of (λ x. has_mark marks (chunk_of events x) ≡ true) (unwritten t.ops v) (λ x there.
      let f = found_among opening events t.staged marks (id_of (chunk_of events x)) pieces had are (one_of (IsCellOf events pieces) (unwritten t.ops v) x cells there).among (each_needs x pieces is there) in
      subst (λ id. has_mark marks (chunk_at id) ≡ true) f.id_is f.is.marked)

  -- so the marks are those that a read may have
  pub are_marked : (seen mark : ℕ) (pieces : List Piece) (fetched : List Kept) (had : List (Option Kept)) → seen ≤ mark → AllByRecursion (IsKeptIn opening events) t.kept → AllByRecursion (IsPiece (sites_of v)) pieces → AllByRecursion (λ (p : Piece). IsNamed p.id) pieces
      → IsStrictlySortedBy (slice_cmp nat_cmp) (ids_of pieces) → AllByRecursion (IsCellOf events pieces) (unwritten t.ops v) → AreFetchedAt opening events mark (new_pieces (sources_of t.staged t.kept pieces) pieces) fetched
      → AreHad opening events t.staged (marks_of t.kept ++ marks_of fetched) pieces had → AreMarked events seen (transaction_of t) v (marks_of t.kept ++ marks_of fetched)
  are_marked seen mark pieces fetched had since all is names sorted cells are have =
      let srcs = sources_of t.staged t.kept pieces in
      let news = new_pieces srcs pieces in
      let new = news_are t.staged t.kept pieces in
      let new_names = of_news (λ (p : Piece). IsNamed p.id) srcs pieces names in
      record {
        fresh = marks_of fetched;
        marked = refl;
        within = fetched_within opening seen events mark news fetched since are;
        needed = fetched_marks opening seen events mark (λ c. list_any (λ x. is_chunk (chunk_of events x) c) (unwritten t.ops v) ≡ true) news fetched are (each_needed news (of_news (IsPiece (sites_of v)) srcs pieces is) new_names new);
        new = fetched_marks opening seen events mark (λ c. has_mark (marks_of t.kept) c ≡ false) news fetched are (each_unmarked news all new_names new);
        once = fetched_once opening seen events mark news fetched new_names are (all_apart srcs pieces (sorted_apart pieces sorted));
        each = each_marked (marks_of t.kept ++ marks_of fetched) pieces had cells is have;
      }
