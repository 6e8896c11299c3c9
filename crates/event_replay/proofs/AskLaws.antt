-- What a Read asks for, piece by piece.
use Rattle.std.proofs.Common.{◌≡◌, ◌∙◌, ◌<◌, ◌^◌, ℕ, zero, suc, List, [], ◌∷◌, length, map, get_or, Some, refl, sym, ap, subst, arith}
use Rattle.std.specs.Prelude.{◌↔◌, All, Contains, Bool, IsTrue}
use Rattle.std.specs.List.{AllByRecursion, flat_map}
use Rattle.std.proofs.lemmas.List.Elements.{All-from_recursion}
use Rattle.cast_driver.specs.declared.cast.Cast.{Cast}
use Rattle.cells.specs.Runs.{IsRunInside, pairs_of}
use Rattle.chunk_versions.specs.Marks.{HasCasts}
use Rattle.chunk_versions.specs.declared.asked.AskedCell.{AskedCell}
use Rattle.history.specs.declared.event.Op.{Op}
use Rattle.history.specs.declared.event.Op.TheVariants.{Read}
use Rattle.history.specs.Arrays.{Known}
use Rattle.history.specs.Chunks.{Chunk}
use Rattle.history.specs.History.{History}
use Rattle.history.specs.Writes.{Put, puts_of, shown_in}
use Rattle.stack_driver.specs.declared.view.View.{View}
use Rattle.transaction_cells.specs.Casting.{casts_at, HasLane}
use Rattle.transaction_cells.specs.Lanes.{LaneSeen}
use Rattle.transaction_cells.specs.Operations.{HasSites}
use Rattle.transaction_cells.specs.Pieces.{AreCells, IsPiece, ids_of}
use Rattle.transaction_cells.specs.Sites.{sites_of, pairs_at}
use Rattle.transaction_cells.specs.declared.view_cells.Piece.{Piece}
use Rattle.transaction_cells.specs.declared.view_cells.ViewCells.{ViewCells}
use Rattle.transaction_cells.proofs.NeedLaws.{piece_pairs}
use Rattle.version_store.specs.Shown.{AreAskedOf}
use Rattle.version_store.specs.Asked.{TellsShown, content_with}
use Rattle.version_store.specs.Asked as told
use Rattle.version_store.specs.declared.store.VersionStore.{VersionStore}
use Rattle.event_replay.specs.Demands.{cell_of}
use Rattle.event_replay.specs.Pieces.{IsAsked, IsAskedAt, AreAskedIn}
use Rattle.event_replay.specs.Placed.{asked_cell, AreShownIn, AreShown}
use Rattle.event_replay.specs.Replays.{MayFollow, IsBehind, HasWords}
use Rattle.event_replay.proofs.OpLaws.{word_count}
use Rattle.event_replay.proofs.PutLaws.{chunk_of_piece, runs_of_piece, piece_of_all}
use Rattle.event_replay.proofs.ShownWords.{AreAsked, asked_of, asked_casts, asked_cells_of, shown_of_piece, shown_words, shown_each, casts_of_lane, lane_count}
use Rattle.event_replay.proofs.Sites.{IsSiteOf, sites_of_op}

module _ (h : History) (puts : List Put) (v : View) (words leaves : List ℕ) (casts : List (List Cast)) (s : VersionStore) (ask : IsAsked h puts v words leaves casts s) where
  pub read_sites : AllByRecursion (IsSiteOf h) (sites_of v)
  read_sites = sites_of_op h (Read v words) ask.may ask.sites

  all_asked : AreAsked leaves words casts 0 (sites_of v) words
  all_asked = asked_of casts leaves words 0 leaves (sites_of v) words ask.through ask.lanes refl refl ask.count

  pub piece_runs : (p : Piece) → IsPiece (sites_of v) p → AllByRecursion (λ run. IsRunInside run (length words) (2 ^ 24)) p.runs
  piece_runs p piece = runs_of_piece h (sites_of v) p (length words) read_sites piece (sym ask.count)

  pub piece_casts : (p : Piece) (asked : List AskedCell) → IsPiece (sites_of v) p → asked ≡ map (asked_cell leaves words) (flat_map pairs_of p.runs) → All (HasCasts casts) asked
  piece_casts p asked piece is =
      let of = chunk_of_piece h (sites_of v) p read_sites piece in
      All-from_recursion (HasCasts casts) asked
      (subst (AllByRecursion (HasCasts casts)) (sym (is ∙ ap (map (asked_cell leaves words)) (piece_pairs (sites_of v) p piece)))
      (asked_casts h of.array of.chunk p.id leaves words casts of.in_history.named of.in_history.known 0 (sites_of v) words all_asked))

  -- the answer of a piece
  pub piece_shown : (p : Piece) (asked : List AskedCell) (answer : Bool) → IsPiece (sites_of v) p → asked ≡ map (asked_cell leaves words) (flat_map pairs_of p.runs) → TellsShown s p.id casts asked answer
      → IsTrue answer ↔ AreShownIn (content_with h puts) p.id (sites_of v) words
  piece_shown p asked answer piece is tells =
      let of = chunk_of_piece h (sites_of v) p read_sites piece in
      let k = of.array in
      let c = of.chunk in
      let same : asked ≡ map (asked_cell leaves words) (pairs_at p.id 0 (sites_of v)) = is ∙ ap (map (asked_cell leaves words)) (piece_pairs (sites_of v) p piece) in
      let cells = subst (told_asked k c) (sym same) (asked_cells_of h k c p.id leaves words casts of.in_history.named of.in_history.known 0 (sites_of v) read_sites) in
      let one = tells h puts k c (cell_of k c) ask.part of.in_history cells in
      let other = shown_of_piece h k c p.id leaves words casts of.in_history.named of.in_history.known (content_with h puts) 0 (sites_of v) words read_sites all_asked in (
        λ so. other.0 (subst (told.AreShownIn (content_with h puts) casts (cell_of k c)) same (one.0 so)),
        λ all. one.1 (subst (told.AreShownIn (content_with h puts) casts (cell_of k c)) (sym same) (other.1 all)),
      )
    where
      told_asked : Known → Chunk → List AskedCell → Type 0
      told_asked k c asked = AreAskedOf h k c (cell_of k c) asked

-- a piece of these
pub asked_at : (h : History) (puts : List Put) (v : View) (words leaves : List ℕ) (casts : List (List Cast)) (pieces : List Piece) (i : ℕ) (p : Piece) (s : VersionStore) → AreAskedIn h puts v words leaves casts pieces s
    → i < length pieces → p ≡ get_or pieces i p → IsAskedAt h puts v words leaves casts p s
asked_at h puts v words leaves casts pieces i p s are low is = record { asked = are.asked; piece = piece_of_all (sites_of v) pieces i p are.cut.each low is }

-- the words of all pieces are those of all cells
pub shown_pieces : (h : History) (puts : List Put) (v : View) (words leaves : List ℕ) (casts : List (List Cast)) (pieces : List Piece) (s : VersionStore) → AreAskedIn h puts v words leaves casts pieces s
    → AllByRecursion (λ (p : Piece). AreShownIn (content_with h puts) p.id (sites_of v) words) pieces → AreShown (content_with h puts) (sites_of v) words
shown_pieces h puts v words leaves casts pieces s are all = shown_each (content_with h puts) (ids_of pieces) (sites_of v) words are.cut.all (at pieces all)
  where
    at : (ps : List Piece) → AllByRecursion (λ (p : Piece). AreShownIn (content_with h puts) p.id (sites_of v) words) ps → (id : List ℕ) → Contains (ids_of ps) id → AreShownIn (content_with h puts) id (sites_of v) words
    at [] all id there = absurd (omega (arith, there.1))
    at (p ∷ ps) all id (zero, lt, is) = subst (λ i. AreShownIn (content_with h puts) i (sites_of v) words) is all.0
    at (p ∷ ps) all id (suc n, lt, is) = at ps all.1 id (n, omega (arith, lt), is)

-- a Read, once its cells are located
pub read_asked : (h : History) (number : ℕ) (done : List Op) (v : View) (words : List ℕ) (casts : List (List Cast)) (cells : ViewCells) (s : VersionStore) → IsBehind h number done s → MayFollow h (Read v words) → HasSites v → AreCells (sites_of v) cells
    → casts ≡ map (λ (lane : LaneSeen). lane.casts) cells.lanes → AreAskedIn h (puts_of done) v words cells.leaves casts cells.pieces s
read_asked h number done v words casts cells s behind may has are is = record {
  asked = record {
    legal = behind.legal;
    part = behind.kept;
    may = may;
    sites = has;
    count = word_count h (Read v words) may has;
    lanes = low cells.leaves are.lanes;
    through = are.casts ∙ through cells.leaves;
  };
  cut = are.pieces;
} where
  long : length casts ≡ length cells.lanes
  long = ap (λ (xs : List (List Cast)). length xs) is ∙ lane_count cells.lanes

  low : (leaves : List ℕ) → AllByRecursion (HasLane cells.lanes) leaves → AllByRecursion (λ leaf. leaf < length casts) leaves
  low [] all = tt
  low (leaf ∷ leaves) all = ((let here = all.0 in let same = long in omega (arith, here, same)), low leaves all.1)

  through : (leaves : List ℕ) → map (casts_at cells.lanes) leaves ≡ map (λ leaf. get_or casts leaf []) leaves
  through [] = refl
  through (leaf ∷ leaves) = λ i. (sym (casts_of_lane cells.lanes leaf) ∙ ap (λ (xs : List (List Cast)). get_or xs leaf []) (sym is)) i ∷ through leaves i

-- all cells are shown where the view has the words
pub read_words : (h : History) (done : List Op) (v : View) (words : List ℕ) → MayFollow h (Read v words) → HasSites v → HasWords h done v words ↔ AreShown (content_with h (puts_of done)) (sites_of v) words
read_words h done v words may has =
    subst (λ ts. (map Some words ≡ map (shown_in (content_with h (puts_of done))) ts) ↔ AreShown (content_with h (puts_of done)) (sites_of v) words) (sym has.targets)
    (shown_words (content_with h (puts_of done)) (sites_of v) words (word_count h (Read v words) may has))
