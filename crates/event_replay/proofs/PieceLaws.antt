-- What is asked for of a piece.
use Rattle.std.proofs.Common.{◌≡◌, ◌∙◌, ◌<◌, ◌^◌, ℕ, List, [], ◌∷◌, length, map, take, get_or, Option, Some, None, unwrap_or, refl, sym, ap, subst, arith}
use Rattle.std.specs.Prelude.{◌↔◌, All}
use Rattle.std.specs.FinMap as finmap
use Rattle.std.specs.List.{AllByRecursion, flat_map}
use Rattle.std.proofs.lemmas.List.Elements.{All-from_recursion}
use Rattle.cast_driver.specs.declared.cast.Cast.{Cast}
use Rattle.cells.specs.Runs.{IsRunInside, pairs_of}
use Rattle.chunk_versions.specs.Marks.{HasCasts}
use Rattle.chunk_versions.specs.declared.asked.AskedCell.{AskedCell}
use Rattle.history.specs.declared.event.Op.{Op}
use Rattle.history.specs.Arrays.{Known}
use Rattle.history.specs.Chunks.{Chunk}
use Rattle.history.specs.Content.{world_after}
use Rattle.history.specs.History.{History}
use Rattle.history.specs.Legal.{HasTarget}
use Rattle.stack_driver.specs.declared.view.View.{View}
use Rattle.transaction_cells.specs.Casting.{casts_at, HasLane}
use Rattle.transaction_cells.specs.Lanes.{LaneSeen}
use Rattle.transaction_cells.specs.Pieces.{IsPiece}
use Rattle.transaction_cells.specs.Sites.{Site, sites_of, pairs_at}
use Rattle.transaction_cells.specs.StagedWords.{staged_words, word_of_pair}
use Rattle.transaction_cells.specs.Staging.{StagedChunk, staged_of}
use Rattle.transaction_cells.specs.declared.view_cells.Piece.{Piece}
use Rattle.transaction_cells.specs.declared.view_cells.ViewCells.{ViewCells}
use Rattle.transaction_cells.proofs.NeedLaws.{piece_pairs}
use Rattle.transaction_cells.proofs.Laws.{known_sites}
use Rattle.version_store.specs.Shown.{AreAskedOf, AreShownThen, IsAskedOf}
use Rattle.version_store.specs.Ids.{IsChunkIn}
use Rattle.event_replay.specs.declared.demand.AskedPiece.{AskedPiece}
use Rattle.event_replay.specs.Demands.{IsReadIn, IsPieceIn, AreCovered, AreOwnIn, AreOthersIn, bare, cell_of}
use Rattle.event_replay.specs.Placed.{asked_cell}
use Rattle.event_replay.proofs.OwnLaws.{bare_all, own_of_piece, others_of_piece}
use Rattle.event_replay.proofs.PutLaws.{chunk_of_piece, runs_of_piece}
use Rattle.event_replay.proofs.ShownWords.{AreAsked, asked_of, asked_casts, asked_cells_of, casts_of_lane, lane_count}
use Rattle.event_replay.proofs.Sites.{IsSiteOf, all_present}

abbrev pub lane_casts : ViewCells → List (List Cast)
lane_casts cells = map (λ (lane : LaneSeen). lane.casts) cells.lanes

module _ (h : History) (ops : List Op) (v : View) (words : List ℕ) (cells : ViewCells) (staged : List StagedChunk) (read : IsReadIn h ops v words cells staged) where
  pub read_sites_of : AllByRecursion (IsSiteOf h) (sites_of v)
  read_sites_of = all_present h (sites_of v) (known_sites h v read.leaves read.sites.grids) (subst (AllByRecursion (HasTarget h)) read.sites.targets read.targets)

  through : (leaves : List ℕ) → map (casts_at cells.lanes) leaves ≡ map (λ leaf. get_or (lane_casts cells) leaf []) leaves
  through [] = refl
  through (leaf ∷ leaves) = λ i. sym (casts_of_lane cells.lanes leaf) i ∷ through leaves i

  low : (leaves : List ℕ) → AllByRecursion (HasLane cells.lanes) leaves → AllByRecursion (λ leaf. leaf < length (lane_casts cells)) leaves
  low [] all = tt
  low (leaf ∷ leaves) all = ((let here = all.0 in let same = lane_count cells.lanes in omega (arith, here, same)), low leaves all.1)

  pub all_asked_of : AreAsked cells.leaves words (lane_casts cells) 0 (sites_of v) words
  all_asked_of = asked_of (lane_casts cells) cells.leaves words 0 cells.leaves (sites_of v) words (read.cut.casts ∙ through cells.leaves) (low cells.leaves read.cut.lanes) refl refl read.count

  module _ (p : Piece) (piece : IsPiece (sites_of v) p) where
    pub asked_runs : AllByRecursion (λ run. IsRunInside run (length words) (2 ^ 24)) p.runs
    asked_runs = runs_of_piece h (sites_of v) p (length words) read_sites_of piece (sym read.count)

    abbrev pub asked_there : List AskedCell
    asked_there = map (asked_cell cells.leaves words) (flat_map pairs_of p.runs)

    pairs : flat_map pairs_of p.runs ≡ pairs_at p.id 0 (sites_of v)
    pairs = piece_pairs (sites_of v) p piece

    pub asked_lanes : All (λ (a : AskedCell). a.leaf < length cells.lanes) asked_there
    asked_lanes =
        let of = chunk_of_piece h (sites_of v) p read_sites_of piece in
        let same = lane_count cells.lanes in
        subst (λ n. All (λ (a : AskedCell). a.leaf < n) asked_there) same
        (All-from_recursion (HasCasts (lane_casts cells)) asked_there
        (subst (λ ps. AllByRecursion (HasCasts (lane_casts cells)) (map (asked_cell cells.leaves words) ps)) (sym pairs)
        (asked_casts h of.array of.chunk p.id cells.leaves words (lane_casts cells) of.in_history.named of.in_history.known 0 (sites_of v) words all_asked_of)))

    pub covered_own : AreCovered (lane_casts cells) asked_there (staged_words staged p) ↔ AreOwnIn staged p.id (sites_of v) words
    covered_own =
        subst (λ ps. AreCovered (lane_casts cells) (map (asked_cell cells.leaves words) ps) (map (word_of_pair (unwrap_or (staged_of staged p.id) [])) ps) ↔ AreOwnIn staged p.id (sites_of v) words) (sym pairs)
        (own_of_piece p.id cells.leaves words (lane_casts cells) staged 0 (sites_of v) words all_asked_of)

    pub shown_others : (k : Known) (c : Chunk) (m : ℕ) → IsChunkIn h k c p.id
        → AreOthersIn (world_after finmap.empty (take m h)) staged p.id (sites_of v) words ↔ AreShownThen h (lane_casts cells) (cell_of k c) m (bare asked_there (staged_words staged p))
    shown_others k c m chunk =
        subst (λ ps. AreOthersIn (world_after finmap.empty (take m h)) staged p.id (sites_of v) words ↔ AreShownThen h (lane_casts cells) (cell_of k c) m (bare (map (asked_cell cells.leaves words) ps) (map (word_of_pair (unwrap_or (staged_of staged p.id) [])) ps))) (sym pairs)
        (others_of_piece p.id cells.leaves words (lane_casts cells) staged h k c m chunk.named chunk.known 0 (sites_of v) words read_sites_of all_asked_of)

    pub piece_in : (a : AskedPiece) → a.id ≡ p.id → a.asked.items ≡ bare asked_there (staged_words staged p) → IsPieceIn h (lane_casts cells) a
    piece_in a id is =
        let of = chunk_of_piece h (sites_of v) p read_sites_of piece in
        record {
          array = of.array;
          chunk = of.chunk;
          in_history = subst (λ i. IsChunkIn h of.array of.chunk i) (sym id) of.in_history;
          cells = subst (AllByRecursion (IsAskedOf h of.array of.chunk (cell_of of.array of.chunk))) (sym is)
              (bare_all (IsAskedOf h of.array of.chunk (cell_of of.array of.chunk)) asked_there (staged_words staged p)
              (subst (λ ps. AreAskedOf h of.array of.chunk (cell_of of.array of.chunk) (map (asked_cell cells.leaves words) ps)) (sym pairs)
              (asked_cells_of h of.array of.chunk p.id cells.leaves words (lane_casts cells) of.in_history.named of.in_history.known 0 (sites_of v) read_sites_of)));
          casts_there = subst (AllByRecursion (HasCasts (lane_casts cells))) (sym is)
              (bare_all (HasCasts (lane_casts cells)) asked_there (staged_words staged p)
              (subst (λ ps. AllByRecursion (HasCasts (lane_casts cells)) (map (asked_cell cells.leaves words) ps)) (sym pairs)
              (asked_casts h of.array of.chunk p.id cells.leaves words (lane_casts cells) of.in_history.named of.in_history.known 0 (sites_of v) words all_asked_of)));
        }
