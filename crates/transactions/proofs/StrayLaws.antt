-- Reads of cells that were outside when their chunks were read.
use Rattle.std.proofs.Common.{◌≡◌, ◌≢◌, ◌∙◌, ◌⊎◌, inl, inr, ℕ, zero, suc, ◌+◌, ◌<◌, ◌≤◌, ◌==◌, ◌||◌, ◌&&◌, not, Bool, true, false, cond, List, [], ◌∷◌, ◌++◌, length, map, max, take, drop, get_or, Option, Some, None, refl, sym, ap, subst, arith, eqb-true, unwrap_or}
use Rattle.std.specs.Prelude.{Contains, filter, fold, nat_le}
use Rattle.std.specs.FinMap as finmap
use Rattle.std.specs.List.{AllByRecursion, list_any}
use Rattle.std.specs.Str.{bytes_eq}
use Rattle.std.proofs.lemmas.Bool.Decides.{nat_tests}
use Rattle.std.proofs.lemmas.List.{drop_more}
use Rattle.std.proofs.lemmas.Slice.Eq.{bytes_eq-Decides}
use Rattle.cells.specs.Shapes.{is_inside}
use Rattle.cells.proofs.Laws.{both, true_or_false}
use Rattle.history.specs.Arrays.{Known, known_after, chunk_shape, is_local}
use Rattle.history.specs.Chunks.{Chunk, chunk_in, chunk_of, metadata_key}
use Rattle.history.specs.Commit.{Key, Transaction, is_before}
use Rattle.history.specs.History.{History}
use Rattle.history.specs.Legal.{IsLegal, is_present, is_present_in}
use Rattle.history.specs.Reads.{Marks, mark_of, unwritten}
use Rattle.history.specs.ReadRows.{IsShrunkBy}
use Rattle.history.specs.Refusals.{IsShrunkRead, cells_outside, key_of_array, last_mark, mark_at, metadata_key_at, was_outside}
use Rattle.history.specs.Shown.{AreMarked}
use Rattle.history.specs.Store.{resized_after}
use Rattle.history.specs.declared.array.ArrayInfo.{ArrayInfo}
use Rattle.history.specs.declared.event.Op.{Op}
use Rattle.stack_driver.specs.Targets.{Cell}
use Rattle.stack_driver.specs.declared.view.View.{View}
use Rattle.stack_targets.specs.Landings.{leaves_of}
use Rattle.chunk_fetches.specs.Agreement.{Opening}
use Rattle.chunk_fetches.specs.Outline.{outline}
use Rattle.chunk_fetches.specs.declared.Bounds.{Bounds}
use Rattle.chunk_fetches.specs.Operations.{AreStaged, HasSites, IsLeafIn}
use Rattle.chunk_fetches.specs.Outside.{is_cell_outside, needs_outside}
use Rattle.chunk_fetches.specs.Pieces.{IsPiece}
use Rattle.chunk_fetches.specs.Sites.{id_of, sites_of}
use Rattle.chunk_fetches.specs.Staging.{StagedChunk, staged_of}
use Rattle.chunk_fetches.specs.declared.Piece.{Piece}
use Rattle.chunk_fetches.proofs.Laws.{outside_of_view}
use Rattle.transactions.specs.Had.{AreHad, IsHadFor, had_from, had_of}
use Rattle.chunk_fetches.specs.Sources.{count_new}
use Rattle.chunk_fetches.specs.declared.source.Source.{Source}
use Rattle.chunk_fetches.specs.declared.source.Source.TheVariants.{Covered, Old, New}
use Rattle.transactions.specs.Strays.{AreFitting, HasLastNumber, HasLeastKey, IsFitting, stray_at, stray_of, strays_of, with_stray}
use Rattle.transactions.specs.Txn.{TxnSeen, transaction_of}
use Rattle.chunk_fetches.specs.Kept.{chunk_at}
use Rattle.chunk_fetches.specs.declared.kept.Kept.{Kept}
use Rattle.transactions.specs.declared.stray.Stray.{Stray}
use Rattle.transactions.proofs.ReadMarks.{each_needs}
use Rattle.transactions.proofs.TellingLaws.{IsPieceOf, chunk_at_mark, info_at, local_at, local_inside}
use Rattle.transactions.proofs.ViewCellLaws.{IsCellOf, IsFound, any_of, found_among, one_of, passes}

-- a cell that a test keeps
kept_by : (test : Cell → Bool) (xs : List Cell) (x : Cell) → Contains xs x → test x ≡ true → Contains (filter test xs) x
kept_by test [] x there is = absurd (omega (arith, there.1))
kept_by test (y ∷ xs) x (zero, lt, same) is =
    subst (λ b. Contains (cond b (y ∷ filter test xs) (filter test xs)) x) (sym (ap test same ∙ is)) (0, omega arith, same)
kept_by test (y ∷ xs) x (suc k, lt, same) is = by (test y) (kept_by test xs x (k, omega (arith, lt), same) is)
  where
    by : (b : Bool) → Contains (filter test xs) x → Contains (cond b (y ∷ filter test xs) (filter test xs)) x
    by true there = let below = there.1 in (suc there.0, omega (arith, below), there.2)
    by false there = there

by_test : (test : Cell → Bool) (xs : List Cell) (x : Cell) → Contains (filter test xs) x → Contains xs x × (test x ≡ true)
by_test test [] x there = absurd (omega (arith, there.1))
by_test test (y ∷ xs) x there = by (test y) refl there (λ h. by_test test xs x h)
  where
    by : (b : Bool) → test y ≡ b → Contains (cond b (y ∷ filter test xs) (filter test xs)) x → (Contains (filter test xs) x → Contains xs x × (test x ≡ true)) → Contains (y ∷ xs) x × (test x ≡ true)
    by true e (zero, lt, same) rest = ((0, omega arith, same), subst (λ z. test z ≡ true) same e)
    by true e (suc k, lt, same) rest = let more = rest (k, omega (arith, lt), same) in let below = more.0.1 in ((suc more.0.0, omega (arith, below), more.0.2), more.1)
    by false e h rest = let more = rest h in let below = more.0.1 in ((suc more.0.0, omega (arith, below), more.0.2), more.1)

-- the greatest mark of some cells of an array, once it is found
module _ (events : History) (marks : Marks) (array : ℕ) where
  abbrev next : ℕ → Cell → ℕ
  next m x = cond (x.array == array) (max m (mark_at events marks x)) m

  bounded : (most : ℕ) (xs : List Cell) (m : ℕ) → m ≤ most → ((x : Cell) → Contains xs x → x.array ≡ array → mark_at events marks x ≤ most) → fold next m xs ≤ most
  bounded most [] m low all = low
  bounded most (x ∷ xs) m low all =
      bounded most xs (next m x) (by (x.array == array) refl) (λ y there. all y (suc there.0, (let below = there.1 in omega (arith, below)), there.2))
    where
      by : (b : Bool) → (x.array == array) ≡ b → cond b (max m (mark_at events marks x)) m ≤ most
      by true e = let here = all x (0, omega arith, refl) (eqb-true x.array array e) in omega (arith, low, here)
      by false e = low

  rising : (xs : List Cell) (m : ℕ) → m ≤ fold next m xs
  rising [] m = omega arith
  rising (x ∷ xs) m = let rest = rising xs (next m x) in let first = by (x.array == array) in omega (arith, rest, first)
    where
      by : (b : Bool) → m ≤ cond b (max m (mark_at events marks x)) m
      by true = omega arith
      by false = omega arith

  reached : (xs : List Cell) (m : ℕ) (x : Cell) → Contains xs x → x.array ≡ array → mark_at events marks x ≤ fold next m xs
  reached [] m x there same = absurd (omega (arith, there.1))
  reached (y ∷ xs) m x (zero, lt, is) same =
      let here : (y.array == array) ≡ true = grind (arith, nat_tests, (ap (λ (z : Cell). z.array) is ∙ same)) in
      let mark : mark_at events marks y ≡ mark_at events marks x = ap (mark_at events marks) is in
      let grown : next m y ≡ max m (mark_at events marks y) = ap (λ b. cond b (max m (mark_at events marks y)) m) here in
      let rest = rising xs (next m y) in
      omega (arith, rest, grown, mark)
  reached (y ∷ xs) m x (suc k, lt, is) same = reached xs (next m y) x (k, omega (arith, lt), is) same

-- a cell that counts, behind one of these
pub record IsStrayIn (events : History) (marks : Marks) (t : Transaction) (v : View) (s : Stray) : Type 0 where
  pub cell : Cell
  pub counts : Contains (cells_outside events marks t v) cell
  pub array_is : s.array ≡ cell.array
  pub mark_is : mark_at events marks cell ≡ s.mark
  pub number : s.resized ≡ resized_after (take s.mark events) s.array
  pub array : Known
  pub known : known_after events s.array ≡ Some array
  pub stored : is_local array.info.home ≡ false

module _ (opening : Opening) (events : History) (v : View) (t : TxnSeen) (marks : Marks) (legal : IsLegal finmap.empty (outline events)) (leaves : AllByRecursion (IsLeafIn events) (leaves_of v)) (has : HasSites v) (staged : AreStaged events t.ops t.staged) where
  -- a cell of a piece's chunk: its array then, and whether it lay inside
  pub record IsCellThen (p : Piece) (k : Kept) (x : Cell) : Type 0 where
    pub array_is : (chunk_at p.id).array ≡ x.array
    pub mark_is : mark_at events marks x ≡ k.mark
    pub outside : was_outside events marks x ≡ not (is_inside k.bounds.shape x.index)

  cell_then : (p : Piece) (k : Kept) (x : Cell) (is : IsPieceOf events p) (had : IsHadFor opening events t.staged marks p k) (array : Known) → known_after events x.array ≡ Some array → id_of (chunk_of events x) ≡ p.id → IsCellThen p k x
  cell_then p k x is had array known id =
      let there = chunk_at_mark events legal opening p k is had.same had.kept in
      let c : Chunk = chunk_in (Some array) x in
      let same : p.id ≡ id_of c = sym id ∙ ap (λ o. id_of (chunk_in o x)) known in
      let here : chunk_at p.id ≡ c = ap chunk_at same in
      let number : (chunk_at p.id).array ≡ x.array = ap (λ (d : Chunk). d.array) here in
      let mark : mark_at events marks x ≡ k.mark = ap (mark_of marks) (ap (λ o. chunk_in o x) known ∙ sym here) ∙ had.mark in
      let then : known_after (take k.mark events) x.array ≡ Some there.then = ap (known_after (take k.mark events)) (sym number) ∙ there.known in
      record {
        array_is = number;
        mark_is = mark;
        outside = ap (λ m. not (is_present (take m events) x)) mark ∙ ap (λ o. not (is_present_in o x)) then ∙ ap (λ s. not (is_inside s x.index)) (sym there.bounds);
      }

  -- a read needs a cell of a piece outside where one of the view's does
  needs_is : (p : Piece) (k : Kept) (is : IsPieceOf events p) (had : IsHadFor opening events t.staged marks p k) → IsPiece (sites_of v) p
      → needs_outside k.bounds.shape k.snapshot.cells.shape t.staged p ≡ list_any (is_cell_outside events k.bounds.shape p.id) (unwritten t.ops v)
  needs_is p k is had piece =
      let there = chunk_at_mark events legal opening p k is had.same had.kept in
      outside_of_view events v t.ops t.staged p (chunk_at p.id).array (chunk_at p.id).index is.array k.bounds.shape k.snapshot.cells.shape leaves has piece staged is.named is.known there.shape

  -- of a cell outside the array is stored
  stored_of : (p : Piece) (k : Kept) (x : Cell) (is : IsPieceOf events p) (had : IsHadFor opening events t.staged marks p k) (cell : IsCellOf events (p ∷ []) x) → (chunk_at p.id).array ≡ x.array → is_inside k.bounds.shape x.index ≡ false → is_local is.array.info.home ≡ false
  stored_of p k x is had cell number outside = by (true_or_false (is_local is.array.info.home))
    where
      by : (is_local is.array.info.home ≡ true) ⊎ (is_local is.array.info.home ≡ false) → is_local is.array.info.home ≡ false
      by (inr stored) = stored
      by (inl local) =
          let there = chunk_at_mark events legal opening p k is had.same had.kept in
          let known : known_after events x.array ≡ Some is.array = ap (known_after events) (sym number) ∙ is.known in
          let shape : k.bounds.shape ≡ is.array.info.shape =
          there.bounds ∙ local_at events legal k.mark (chunk_at p.id).array there.then there.known (ap (λ (i : ArrayInfo). is_local i.home) there.info ∙ local) ∙ ap (λ (i : ArrayInfo). i.shape) there.info in
          let inside = local_inside events legal x is.array known cell.was local in
          let clash : true ≡ false = sym inside ∙ ap (λ s. is_inside s x.index) (sym shape) ∙ outside in
          absurd (let no_such : ⊥ = cc in no_such)

  not_inside : (b : Bool) → not b ≡ true → b ≡ false
  not_inside true is = absurd (let no_such : ⊥ = cc in no_such)
  not_inside false is = refl

  stray_is : (p : Piece) (k : Kept) (is : IsPieceOf events p) (had : IsHadFor opening events t.staged marks p k) → IsPiece (sites_of v) p → (all : List Piece) → AllByRecursion (IsCellOf events all) (unwritten t.ops v)
      → needs_outside k.bounds.shape k.snapshot.cells.shape t.staged p ≡ true → IsStrayIn events marks (transaction_of t) v (stray_of k)
  stray_is p k is had piece all cells needed =
      let some = passes (is_cell_outside events k.bounds.shape p.id) (unwritten t.ops v) (sym (needs_is p k is had piece) ∙ needed) in
      let x = some.0 in
      let cell = one_of (IsCellOf events all) (unwritten t.ops v) x cells some.1 in
      let tests = both (bytes_eq (id_of (chunk_of events x)) p.id) (not (is_inside k.bounds.shape x.index)) some.2 in
      let id : id_of (chunk_of events x) ≡ p.id = (bytes_eq-Decides (id_of (chunk_of events x)) p.id).0 tests.0 in
      let then = cell_then p k x is had cell.array cell.known id in
      let there = chunk_at_mark events legal opening p k is had.same had.kept in
      let same : (chunk_at k.id).array ≡ (chunk_at p.id).array = ap (λ i. (chunk_at i).array) had.same in
      record {
        cell = x;
        counts = kept_by (was_outside events marks) (unwritten t.ops v) x some.1 (then.outside ∙ tests.1);
        array_is = same ∙ then.array_is;
        mark_is = then.mark_is;
        number = ap (λ (b : Bounds). b.resized) there.chunk.bounded ∙ ap (resized_after (take k.mark events)) (sym same);
        array = is.array;
        known = ap (known_after events) same ∙ is.known;
        stored = stored_of p k x is had (record { array = cell.array; known = cell.known; rank = cell.rank; shape = cell.shape; among = (0, omega arith, sym id); was = cell.was }) then.array_is (not_inside (is_inside k.bounds.shape x.index) tests.1);
      }

  pub strays_are : (all : List Piece) → AllByRecursion (IsCellOf events all) (unwritten t.ops v) → (pieces : List Piece) (had : List (Option Kept)) → AllByRecursion (IsPieceOf events) pieces → AllByRecursion (IsPiece (sites_of v)) pieces → AreHad opening events t.staged marks pieces had
      → AllByRecursion (IsStrayIn events marks (transaction_of t) v) (strays_of t.staged pieces had)
  strays_are all cells [] had is pieces are = tt
  strays_are all cells (p ∷ ps) [] is pieces are = absurd are
  strays_are all cells (p ∷ ps) (None ∷ had) is pieces are = strays_are all cells ps had is.1 pieces.1 are.1
  strays_are all cells (p ∷ ps) (Some k ∷ had) is pieces are = by (needs_outside k.bounds.shape k.snapshot.cells.shape t.staged p) refl (strays_are all cells ps had is.1 pieces.1 are.1)
    where
      by : (b : Bool) → needs_outside k.bounds.shape k.snapshot.cells.shape t.staged p ≡ b → AllByRecursion (IsStrayIn events marks (transaction_of t) v) (strays_of t.staged ps had)
          → AllByRecursion (IsStrayIn events marks (transaction_of t) v) (with_stray (cond b (Some (stray_of k)) None) (strays_of t.staged ps had))
      by true e rest = (stray_is p k is.0 are.0 pieces.0 all cells e, rest)
      by false e rest = rest

  -- the facts of a found piece
  found_facts : (ps : List Piece) (had : List (Option Kept)) (id : List ℕ) → AllByRecursion (IsPieceOf events) ps → AllByRecursion (IsPiece (sites_of v)) ps → (f : IsFound opening events t.staged marks ps had id) → Contains ps f.piece → IsPieceOf events f.piece × IsPiece (sites_of v) f.piece
  found_facts ps had id is pieces f there = (at (IsPieceOf events) ps f.piece is there, at (IsPiece (sites_of v)) ps f.piece pieces there)
    where
      at : (P : Piece → Type 0) (qs : List Piece) (p : Piece) → AllByRecursion P qs → Contains qs p → P p
      at P [] p all there = absurd (omega (arith, there.1))
      at P (q ∷ qs) p all (zero, lt, e) = subst P e all.0
      at P (q ∷ qs) p all (suc n, lt, e) = at P qs p all.1 (n, omega (arith, lt), e)

  -- each cell that no operation wrote lay inside, or one of these is of its array and mark
  pub stray_or_inside : (pieces : List Piece) (had : List (Option Kept)) → AllByRecursion (IsCellOf events pieces) (unwritten t.ops v) → AllByRecursion (IsPieceOf events) pieces → AllByRecursion (IsPiece (sites_of v)) pieces → AreHad opening events t.staged marks pieces had
      → (x : Cell) → Contains (unwritten t.ops v) x → (f : IsFound opening events t.staged marks pieces had (id_of (chunk_of events x)))
      → ((is_inside f.chunk.bounds.shape x.index ≡ true) × (was_outside events marks x ≡ false))
      ⊎ ((s : Stray) × Contains (strays_of t.staged pieces had) s × (s.array ≡ x.array) × (mark_at events marks x ≡ s.mark))
  stray_or_inside pieces had cells is ps are x there f =
      let facts = found_facts pieces had (id_of (chunk_of events x)) is ps f f.in_pieces in
      let k = f.chunk in
      let cell = one_of (IsCellOf events pieces) (unwritten t.ops v) x cells there in
      let then = cell_then f.piece k x facts.0 f.is cell.array cell.known (sym f.id_is) in
      let same : (chunk_at k.id).array ≡ (chunk_at f.piece.id).array = ap (λ i. (chunk_at i).array) f.is.same in
      by (is_inside k.bounds.shape x.index) refl facts then same
    where
      by : (b : Bool) → is_inside f.chunk.bounds.shape x.index ≡ b → IsPieceOf events f.piece × IsPiece (sites_of v) f.piece → IsCellThen f.piece f.chunk x → (chunk_at f.chunk.id).array ≡ (chunk_at f.piece.id).array
          → ((b ≡ true) × (was_outside events marks x ≡ false))
          ⊎ ((s : Stray) × Contains (strays_of t.staged pieces had) s × (s.array ≡ x.array) × (mark_at events marks x ≡ s.mark))
      by true e facts then same = inl (refl, then.outside ∙ ap not e)
      by false e facts then same =
          let out : is_cell_outside events f.chunk.bounds.shape f.piece.id x ≡ true = (λ i. (bytes_eq-Decides (id_of (chunk_of events x)) f.piece.id).1 (sym f.id_is) i && not (e i)) in
          let needed = needs_is f.piece f.chunk facts.0 f.is facts.1 ∙ any_of (is_cell_outside events f.chunk.bounds.shape f.piece.id) (unwritten t.ops v) x there out in
          inr (stray_of f.chunk, f.stray needed, same ∙ then.array_is, then.mark_is)

  pub found_of : (pieces : List Piece) (had : List (Option Kept)) → AllByRecursion (IsCellOf events pieces) (unwritten t.ops v) → AllByRecursion (IsPiece (sites_of v)) pieces → AreHad opening events t.staged marks pieces had → (x : Cell) → Contains (unwritten t.ops v) x
      → IsFound opening events t.staged marks pieces had (id_of (chunk_of events x))
  found_of pieces had cells ps are x there =
      found_among opening events t.staged marks (id_of (chunk_of events x)) pieces had are (one_of (IsCellOf events pieces) (unwritten t.ops v) x cells there).among (each_needs opening events v t leaves has staged x pieces ps there)

  -- so a cell outside is behind one of these
  pub outside_stray : (pieces : List Piece) (had : List (Option Kept)) → AllByRecursion (IsCellOf events pieces) (unwritten t.ops v) → AllByRecursion (IsPieceOf events) pieces → AllByRecursion (IsPiece (sites_of v)) pieces → AreHad opening events t.staged marks pieces had
      → (x : Cell) → Contains (cells_outside events marks (transaction_of t) v) x → (s : Stray) × Contains (strays_of t.staged pieces had) s × (s.array ≡ x.array) × (mark_at events marks x ≡ s.mark)
  outside_stray pieces had cells is ps are x there =
      let parts = by_test (was_outside events marks) (unwritten t.ops v) x there in
      elim (stray_or_inside pieces had cells is ps are x parts.0 (found_of pieces had cells ps are x parts.0)) [
        | inl inside ↦ let clash : true ≡ false = sym parts.1 ∙ inside.1 in absurd (let no_such : ⊥ = cc in no_such)
        | inr stray ↦ stray
      ]

  stray_in : (strays : List Stray) (s : Stray) → AllByRecursion (IsStrayIn events marks (transaction_of t) v) strays → Contains strays s → IsStrayIn events marks (transaction_of t) v s
  stray_in [] s all there = absurd (omega (arith, there.1))
  stray_in (r ∷ strays) s all (zero, lt, e) = subst (IsStrayIn events marks (transaction_of t) v) e all.0
  stray_in (r ∷ strays) s all (suc n, lt, e) = stray_in strays s all.1 (n, omega (arith, lt), e)

  -- a read is shrunk by the least key and the last number of these
  pub shrunk_read : (pieces : List Piece) (had : List (Option Kept)) (array number : ℕ) (key : Key) → AllByRecursion (IsCellOf events pieces) (unwritten t.ops v) → AllByRecursion (IsPieceOf events) pieces → AllByRecursion (IsPiece (sites_of v)) pieces
      → AreHad opening events t.staged marks pieces had → HasLeastKey events (strays_of t.staged pieces had) array key → HasLastNumber (strays_of t.staged pieces had) array number → IsShrunkRead events marks (transaction_of t) v key number
  shrunk_read pieces had array number key cells is ps are least last =
      let strays = strays_of t.staged pieces had in
      let all = strays_are pieces cells pieces had is ps are in
      let s = stray_in strays last.stray all last.among in
      let outside = cells_outside events marks (transaction_of t) v in
      let of_cell : s.cell.array ≡ array = sym s.array_is ∙ last.of_array in
      let known : known_after events array ≡ Some s.array = ap (known_after events) (sym last.of_array) ∙ s.known in
      let most : last_mark events marks s.cell.array outside ≤ last.stray.mark =
      bounded events marks s.cell.array last.stray.mark outside 0 (omega arith)
      (λ x there same. let r = outside_stray pieces had cells is ps are x there in let mark = r.3 in let below = last.last r.0 r.1 (r.2 ∙ same ∙ of_cell) in omega (arith, mark, below)) in
      let least_mark : mark_at events marks s.cell ≤ last_mark events marks s.cell.array outside = reached events marks s.cell.array outside 0 s.cell s.counts refl in
      let mark_is = s.mark_is in
      let mark : last.stray.mark ≡ last_mark events marks s.cell.array outside = omega (arith, most, least_mark, mark_is) in
      record {
        cell = s.cell;
        counts = s.counts;
        named = ap (λ a. key_of_array (known_after events a)) of_cell ∙ ap key_of_array known ∙ least.named s.array known;
        number = sym last.number_is ∙ s.number ∙ (λ i. resized_after (take (mark i) events) (s.array_is i));
        least = λ x there other named.
            let r = outside_stray pieces had cells is ps are x there in
            let q = stray_in strays r.0 all r.1 in
            least.least r.0 r.1 q.array q.known other (sym (ap key_of_array (ap (known_after events) (sym r.2) ∙ q.known)) ∙ named);
      }

-- the number of the greatest mark of an array so far, by those that are left
abbrev pub last_number : ℕ → ℕ → ℕ → List Stray → ℕ
last_number array mark number [] = number
last_number array mark number (s ∷ strays) = cond (s.array == array && nat_le mark s.mark) (last_number array s.mark s.resized strays) (last_number array mark number strays)

-- it is that of one of them whose mark is no less than all of the array, or none of the array has so great a mark
abbrev IsLastFrom : ℕ → ℕ → ℕ → List Stray → ℕ → Type 0
IsLastFrom array mark number strays r =
    (((t : Stray) → Contains strays t → t.array ≡ array → t.mark < mark) × (r ≡ number))
    ⊎ ((s : Stray) × Contains strays s × (s.array ≡ array) × (s.resized ≡ r) × (mark ≤ s.mark) × ((t : Stray) → Contains strays t → t.array ≡ array → t.mark ≤ s.mark))

last_from : (array mark number : ℕ) (strays : List Stray) → IsLastFrom array mark number strays (last_number array mark number strays)
last_from array mark number [] = inl (λ t there same. absurd (omega (arith, there.1)), refl)
last_from array mark number (s ∷ strays) = by (s.array == array && nat_le mark s.mark) refl (last_from array s.mark s.resized strays) (last_from array mark number strays)
  where
    behind : (P : Stray → Type 0) → P s → ((t : Stray) → Contains strays t → P t) → (t : Stray) → Contains (s ∷ strays) t → P t
    behind P first rest t (zero, lt, is) = subst P is first
    behind P first rest t (suc k, lt, is) = rest t (k, omega (arith, lt), is)

    by : (b : Bool) → (s.array == array && nat_le mark s.mark) ≡ b → IsLastFrom array s.mark s.resized strays (last_number array s.mark s.resized strays) → IsLastFrom array mark number strays (last_number array mark number strays)
        → IsLastFrom array mark number (s ∷ strays) (cond b (last_number array s.mark s.resized strays) (last_number array mark number strays))
    by true e (inl none) rest =
        let parts = both (s.array == array) (nat_le mark s.mark) e in
        let low : mark ≤ s.mark = grind (arith, nat_tests, parts.1) in
        inr (s, (0, omega arith, refl), eqb-true s.array array parts.0, sym none.1, low, behind (λ t. t.array ≡ array → t.mark ≤ s.mark) (λ same. omega arith) (λ t there same. let below = none.0 t there same in omega (arith, below)))
    by true e (inr some) rest =
        let parts = both (s.array == array) (nat_le mark s.mark) e in
        let low : mark ≤ s.mark = grind (arith, nat_tests, parts.1) in
        let there = some.1 in
        let lt = there.1 in
        let far = some.4 in
        inr (some.0, (suc there.0, omega (arith, lt), there.2), some.2, some.3, omega (arith, low, far), behind (λ t. t.array ≡ array → t.mark ≤ some.0.mark) (λ same. far) some.5)
    by false e rest (inl none) = inl (behind (λ t. t.array ≡ array → t.mark < mark) (λ same. under same) none.0, none.1)
      where
        under : s.array ≡ array → s.mark < mark
        under same = told (nat_le mark s.mark) refl
          where
            told : (c : Bool) → nat_le mark s.mark ≡ c → s.mark < mark
            told false f = grind (arith, nat_tests, f)
            told true f = let here : (s.array == array) ≡ true = grind (arith, nat_tests, same) in let clash : true ≡ false = sym (λ i. here i && f i) ∙ e in absurd (let no_such : ⊥ = cc in no_such)
    by false e rest (inr some) =
        let there = some.1 in
        let lt = there.1 in
        inr (some.0, (suc there.0, omega (arith, lt), there.2), some.2, some.3, some.4, behind (λ t. t.array ≡ array → t.mark ≤ some.0.mark) (λ same. under same) some.5)
      where
        under : s.array ≡ array → s.mark ≤ some.0.mark
        under same = told (nat_le mark s.mark) refl
          where
            told : (c : Bool) → nat_le mark s.mark ≡ c → s.mark ≤ some.0.mark
            told false f = let below : s.mark < mark = grind (arith, nat_tests, f) in let far = some.4 in omega (arith, below, far)
            told true f = let here : (s.array == array) ≡ true = grind (arith, nat_tests, same) in let clash : true ≡ false = sym (λ i. here i && f i) ∙ e in absurd (let no_such : ⊥ = cc in no_such)

pub last_is : (array : ℕ) (strays : List Stray) (some : (s : Stray) × Contains strays s × (s.array ≡ array)) → HasLastNumber strays array (last_number array 0 0 strays)
last_is array strays some = by (last_from array 0 0 strays)
  where
    by : IsLastFrom array 0 0 strays (last_number array 0 0 strays) → HasLastNumber strays array (last_number array 0 0 strays)
    by (inl none) = let below = none.0 some.0 some.1 some.2 in absurd (omega (arith, below))
    by (inr last) = record { stray = last.0; among = last.1; of_array = last.2; number_is = last.3; last = last.5 }

-- the pieces from one on
module _ (kept fetched : List Kept) (pieces : List Piece) (sources : List Source) (k next : ℕ) (d : Piece) (e : Source) (below : k < length pieces) (lt : k < length sources) where
  pub next_strays : (staged : List StagedChunk) → strays_of staged (drop k pieces) (had_from (drop k sources) kept fetched next)
      ≡ with_stray (stray_at staged (get_or pieces k d) (had_of (get_or sources k e) kept fetched next)) (strays_of staged (drop (k + 1) pieces) (had_from (drop (k + 1) sources) kept fetched (next + count_new (get_or sources k e))))
  next_strays staged = λ i. strays_of staged (drop_more pieces k d below i) (had_from (drop_more sources k e lt i) kept fetched next)

  pub next_fit : AreFitting (drop k pieces) (had_from (drop k sources) kept fetched next)
      → IsFitting (get_or pieces k d) (had_of (get_or sources k e) kept fetched next) × AreFitting (drop (k + 1) pieces) (had_from (drop (k + 1) sources) kept fetched (next + count_new (get_or sources k e)))
  next_fit fit = subst (λ (p : List Piece × List Source). AreFitting p.0 (had_from p.1 kept fetched next)) (λ i. (drop_more pieces k d below i, drop_more sources k e lt i)) fit

pub count_small : (s : Source) → count_new s ≤ 1
count_small Covered = omega arith
count_small (Old place) = omega arith
count_small New = omega arith
