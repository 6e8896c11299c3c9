-- The cells of a view that no operation wrote, their pieces, and what a read has of them.
use Rattle.std.proofs.Common.{◌≡◌, ◌≢◌, ◌∙◌, ◌⊎◌, inl, inr, ℕ, zero, suc, ◌+◌, ◌<◌, ◌≤◌, ◌||◌, not, max, Bool, true, false, cond, List, [], ◌∷◌, ◌++◌, length, map, take, drop, get_or, nat_lt, Option, Some, None, Result, Ok, Err, refl, sym, ap, subst, arith}
use Rattle.std.specs.Prelude.{Contains, filter, filter_map}
use Rattle.std.specs.FinMap as finmap
use Rattle.std.specs.List.{AllByRecursion, list_any}
use Rattle.std.specs.Str.{bytes_eq}
use Rattle.std.proofs.lemmas.Bool.Decides.{nat_tests}
use Rattle.std.proofs.lemmas.List.{take-append-drop, take-map}
use Rattle.std.proofs.lemmas.Slice.Eq.{bytes_eq-Decides}
use Rattle.cells.specs.Elements.{word_at}
use Rattle.cells.specs.Places.{IsInside, c_place}
use Rattle.cells.specs.Shapes.{IsChunkShape, is_inside}
use Rattle.cells.proofs.Laws.{true_or_false}
use Rattle.chunk_cache.specs.Snapshot.{SnapshotCells}
use Rattle.history.specs.Arrays.{Known, known_after, chunk_shape, chunk_shape_in, is_local}
use Rattle.history.specs.Chunks.{Chunk, cell_at, chunk_in, chunk_index, chunk_of, in_array, within_chunk}
use Rattle.history.specs.Content.{content_after, world_after, world_in}
use Rattle.history.specs.History.{History}
use Rattle.history.specs.Legal.{IsLegal, is_present}
use Rattle.history.specs.Reads.{Marks, cells_named, is_put, mark_of, marked_world, target_cell, unwritten}
use Rattle.history.specs.Refs.{HasKnownRefs}
use Rattle.history.specs.Snapshots.{box_in, chunk_box}
use Rattle.history.specs.Writes.{Content, puts_of}
use Rattle.history.specs.declared.array.ArrayInfo.{ArrayInfo}
use Rattle.history.specs.declared.array.Home.{Home}
use Rattle.history.specs.declared.array.Home.TheVariants.{Zarr, N5, Zarr3, Local}
use Rattle.history.specs.declared.event.Op.{Op}
use Rattle.history.proofs.Laws.{IsLegal-front, LiesOf, WasInside, in_array-split, local_shape, some_inj, targets_lie, world_from}
use Rattle.kv_face.specs.Store.{Contents}
use Rattle.stack_driver.specs.Targets.{Cell, Target}
use Rattle.stack_driver.specs.Views.{targets_of}
use Rattle.stack_driver.specs.declared.error.TargetError.{TargetError}
use Rattle.stack_driver.specs.declared.view.View.{View}
use Rattle.stack_targets.specs.Landings.{leaves_of}
use Rattle.chunk_fetches.specs.Agreement.{Opening}
use Rattle.chunk_fetches.specs.Outline.{outline, outlined_event}
use Rattle.chunk_fetches.proofs.Laws.{known-outline, IsNamed, grows_in}
use Rattle.chunk_fetches.specs.Gathered.{AreChunksOf, IsTold, chunk_word, place_in, word_of}
use Rattle.chunk_fetches.specs.Needs.{needs}
use Rattle.chunk_fetches.specs.Outside.{needs_outside}
use Rattle.chunk_fetches.specs.Operations.{AreStaged, HasSites, IsLeafIn}
use Rattle.chunk_fetches.specs.Pieces.{AreCells, IsPiece, ids_of}
use Rattle.chunk_fetches.specs.Sites.{Site, id_of, sites_of}
use Rattle.chunk_fetches.specs.Staging.{StagedChunk}
use Rattle.chunk_fetches.specs.declared.Piece.{Piece}
use Rattle.chunk_fetches.specs.declared.ViewCells.{ViewCells}
use Rattle.chunk_fetches.proofs.Laws.{IsSiteIn, inside_in_chunk, known_sites, named_cells, needs_unwritten}
use Rattle.chunk_fetches.specs.Kept.{IsChunkThen, IsKeptIn, chunk_at}
use Rattle.transactions.specs.Had.{AreHad, IsHad, IsHadFor, snapshot_of, snapshots_of}
use Rattle.transactions.specs.Strays.{stray_at, stray_of, strays_of, with_stray}
use Rattle.chunk_fetches.specs.declared.kept.Kept.{Kept}
use Rattle.transactions.specs.declared.stray.Stray.{Stray}
use Rattle.transactions.proofs.ViewLaws.{leaves_of_known}

-- a cell of an array of the history, in the chunk of a piece, that once was in its array's shape
pub record IsCellOf (events : History) (pieces : List Piece) (x : Cell) : Type 0 where
  pub array : Known
  pub known : known_after events x.array ≡ Some array
  pub rank : length x.index ≡ length (chunk_shape array.info)
  pub shape : IsChunkShape (chunk_shape array.info)
  pub among : Contains (ids_of pieces) (id_of (chunk_of events x))
  pub was : WasInside events x

-- what holds of each cell at sites holds of those that a test keeps
kept_cells : (P : Cell → Type 0) (test : Cell → Bool) (xs : List Cell) → AllByRecursion P xs → AllByRecursion P (filter test xs)
kept_cells P test [] all = tt
kept_cells P test (x ∷ xs) all = by (test x) (kept_cells P test xs all.1)
  where
    by : (b : Bool) → AllByRecursion P (filter test xs) → AllByRecursion P (cond b (x ∷ filter test xs) (filter test xs))
    by true rest = (all.0, rest)
    by false rest = rest

module _ (events : History) (v : View) (pieces : List Piece) where
  site_cells : (sites : List Site) (ts : List (Result Target TargetError)) → ts ≡ map (λ (s : Site). Ok s.target) sites → AllByRecursion (IsSiteIn events) sites → AllByRecursion (λ (s : Site). Contains (ids_of pieces) s.id) sites
      → AllByRecursion (LiesOf events) ts → AllByRecursion (IsCellOf events pieces) (map (λ (s : Site). s.target.cell) sites)
  site_cells sites ts same are among lie = by sites are among (subst (AllByRecursion (LiesOf events)) same lie)
    where
      by : (ss : List Site) → AllByRecursion (IsSiteIn events) ss → AllByRecursion (λ (s : Site). Contains (ids_of pieces) s.id) ss → AllByRecursion (LiesOf events) (map (λ (s : Site). Ok s.target) ss)
          → AllByRecursion (IsCellOf events pieces) (map (λ (s : Site). s.target.cell) ss)
      by [] is in_pieces lies = tt
      by (s ∷ ss) is in_pieces lies = (
        record {
          array = is.0.array;
          known = is.0.known;
          rank = is.0.rank;
          shape = is.0.shape;
          among = subst (Contains (ids_of pieces)) (is.0.id ∙ sym (ap (λ o. id_of (chunk_in o s.target.cell)) is.0.known)) in_pieces.0;
          was = lies.0;
        },
        by ss is.1 in_pieces.1 lies.1,
      )

-- the cells of a view of known arrays that no operation wrote
pub cells_of_view : (events : History) (v : View) (ops : List Op) (cells : ViewCells) → IsLegal finmap.empty (outline events) → HasKnownRefs events v → HasSites v → AreCells (sites_of v) cells → AllByRecursion (IsCellOf events cells.pieces) (unwritten ops v)
cells_of_view events v ops cells legal refs has are =
    kept_cells (IsCellOf events cells.pieces) (λ x. not (is_put (puts_of ops) x)) (cells_named v)
    (subst (AllByRecursion (IsCellOf events cells.pieces)) (sym (ap (filter_map target_cell) has.targets ∙ named_cells (sites_of v)))
    (site_cells events v cells.pieces (sites_of v) (targets_of v) has.targets (known_sites events v (leaves_of_known events v legal refs) has.grids) are.pieces.all (targets_lie events v refs)))

-- one of some cells
pub one_of : (P : Cell → Type 0) (xs : List Cell) (x : Cell) → AllByRecursion P xs → Contains xs x → P x
one_of P [] x all there = absurd (omega (arith, there.1))
one_of P (y ∷ xs) x all (zero, lt, is) = subst P is all.0
one_of P (y ∷ xs) x all (suc k, lt, is) = one_of P xs x all.1 (k, omega (arith, lt), is)

pub each_of : (P : Cell → Type 0) (xs : List Cell) → ((x : Cell) → Contains xs x → P x) → AllByRecursion P xs
each_of P [] each = tt
each_of P (x ∷ xs) each = (each x (0, omega arith, refl), each_of P xs (λ y h. each y (suc h.0, (let lt = h.1 in omega (arith, lt)), h.2)))

pub any_of : (test : Cell → Bool) (xs : List Cell) (x : Cell) → Contains xs x → test x ≡ true → list_any test xs ≡ true
any_of test [] x there is = absurd (omega (arith, there.1))
any_of test (y ∷ xs) x (zero, lt, same) is = ap (λ b. b || list_any test xs) (ap test same ∙ is)
any_of test (y ∷ xs) x (suc k, lt, same) is = second (test y) (any_of test xs x (k, omega (arith, lt), same) is)
  where
    second : (b : Bool) → list_any test xs ≡ true → (b || list_any test xs) ≡ true
    second true h = refl
    second false h = h

-- a cell that passes
pub passes : (test : Cell → Bool) (xs : List Cell) → list_any test xs ≡ true → (x : Cell) × Contains xs x × (test x ≡ true)
passes test [] is = absurd (let no_such : ⊥ = cc in no_such)
passes test (y ∷ xs) is = by (test y) refl is (λ h. passes test xs h)
  where
    by : (b : Bool) → test y ≡ b → (b || list_any test xs) ≡ true → (list_any test xs ≡ true → (x : Cell) × Contains xs x × (test x ≡ true)) → (x : Cell) × Contains (y ∷ xs) x × (test x ≡ true)
    by true e h rest = (y, (0, omega arith, refl), e)
    by false e h rest = let more = rest h in let there = more.1 in let lt = there.1 in (more.0, (suc there.0, omega (arith, lt), there.2), more.2)

-- pieces of a view of known arrays have ids of chunks
piece_named : (events : History) (sites : List Site) (id : List ℕ) → Contains (map (λ (s : Site). s.id) sites) id → AllByRecursion (IsSiteIn events) sites → IsNamed id
piece_named events [] id there all = absurd (omega (arith, there.1))
piece_named events (s ∷ sites) id (zero, lt, is) all = subst IsNamed is (subst IsNamed (sym all.0.id) refl)
piece_named events (s ∷ sites) id (suc k, lt, is) all = piece_named events sites id (k, omega (arith, lt), is) all.1

-- the chunk that a read has of a piece with an id, where each such piece needs it
pub record IsFound (opening : Opening) (events : History) (staged : List StagedChunk) (marks : Marks) (pieces : List Piece) (had : List (Option Kept)) (id : List ℕ) : Type 0 where
  pub piece : Piece
  pub chunk : Kept
  pub in_pieces : Contains pieces piece
  pub id_is : piece.id ≡ id
  pub is : IsHadFor opening events staged marks piece chunk
  pub word : (place : ℕ) → chunk_word pieces (snapshots_of had) id place ≡ word_of (Some chunk.snapshot) place
  pub stray : needs_outside chunk.bounds.shape chunk.snapshot.cells.shape staged piece ≡ true → Contains (strays_of staged pieces had) (stray_of chunk)

pub found_among : (opening : Opening) (events : History) (staged : List StagedChunk) (marks : Marks) (id : List ℕ) (pieces : List Piece) (had : List (Option Kept)) → AreHad opening events staged marks pieces had → Contains (ids_of pieces) id
    → AllByRecursion (λ (p : Piece). p.id ≡ id → needs staged p ≡ true) pieces → IsFound opening events staged marks pieces had id
found_among opening events staged marks id [] had are among each = absurd (omega (arith, among.1))
found_among opening events staged marks id (p ∷ pieces) [] are among each = absurd are
found_among opening events staged marks id (p ∷ pieces) (o ∷ had) are among each =
    by (bytes_eq id p.id) refl (λ e. found_among opening events staged marks id pieces had are.1 (behind e among) each.1)
  where
    here : (q : Option Kept) → bytes_eq id p.id ≡ true → IsHad opening events staged marks p q → IsFound opening events staged marks (p ∷ pieces) (q ∷ had) id
    here None e is = let clash : true ≡ false = sym (each.0 (sym ((bytes_eq-Decides id p.id).0 e))) ∙ is in absurd (let no_such : ⊥ = cc in no_such)
    here (Some k) e is = record {
      piece = p;
      chunk = k;
      in_pieces = (0, omega arith, refl);
      id_is = sym ((bytes_eq-Decides id p.id).0 e);
      is = is;
      word = λ place. ap (λ b. cond b (word_of (Some k.snapshot) place) (chunk_word pieces (snapshots_of had) id place)) e;
      stray = λ outside. subst (λ q. Contains (with_stray q (strays_of staged pieces had)) (stray_of k)) (sym (ap (λ b. cond b (Some (stray_of k)) None) outside)) (0, omega arith, refl);
    }

    further : (q : Option Kept) (s : Stray) → Contains (strays_of staged pieces had) s → Contains (strays_of staged (p ∷ pieces) (q ∷ had)) s
    further q s there = with_one (stray_at staged p q)
      where
        with_one : (r : Option Stray) → Contains (with_stray r (strays_of staged pieces had)) s
        with_one None = there
        with_one (Some r) = let lt = there.1 in (suc there.0, omega (arith, lt), there.2)

    behind : bytes_eq id p.id ≡ false → Contains (p.id ∷ ids_of pieces) id → Contains (ids_of pieces) id
    behind e (zero, lt, is) = let clash : true ≡ false = sym ((bytes_eq-Decides id p.id).1 (sym is)) ∙ e in absurd (let no_such : ⊥ = cc in no_such)
    behind e (suc k, lt, is) = (k, omega (arith, lt), is)

    by : (b : Bool) → bytes_eq id p.id ≡ b → (bytes_eq id p.id ≡ false → IsFound opening events staged marks pieces had id) → IsFound opening events staged marks (p ∷ pieces) (o ∷ had) id
    by true e more = here o e are.0
    by false e more =
        let rest = more e in
        record {
          piece = rest.piece;
          chunk = rest.chunk;
          in_pieces = (let below = rest.in_pieces.1 in (suc rest.in_pieces.0, omega (arith, below), rest.in_pieces.2));
          id_is = rest.id_is;
          is = rest.is;
          word = λ place. ap (λ b. cond b (word_of (snapshot_of o) place) (chunk_word pieces (snapshots_of had) id place)) e ∙ rest.word place;
          stray = λ outside. further o (stray_of rest.chunk) (rest.stray outside);
        }
