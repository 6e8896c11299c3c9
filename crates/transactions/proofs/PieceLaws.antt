-- The chunks of a view's pieces.
use Rattle.std.proofs.Common.{◌≡◌, ◌∙◌, ℕ, ◌+◌, Bool, true, false, cond, List, [], ◌∷◌, map, take, drop, Result, Ok, Some, refl, sym, ap, subst}
use Rattle.std.specs.Prelude.{◌≢◌}
use Rattle.std.specs.FinMap as finmap
use Rattle.std.specs.List.{AllByRecursion}
use Rattle.std.specs.Str.{bytes_eq}
use Rattle.std.proofs.lemmas.List.{take-map, take-append-drop}
use Rattle.std.proofs.lemmas.Slice.Eq.{bytes_eq-Decides}
use Rattle.history.specs.Arrays.{Known, known_after, chunk_shape}
use Rattle.history.specs.Chunks.{IsIndexOf, chunk_index}
use Rattle.history.specs.History.{History}
use Rattle.history.specs.Legal.{IsLegal}
use Rattle.history.specs.Refs.{HasKnownRefs}
use Rattle.history.proofs.Laws.{IsLegal-front, LiesOf, WasInside, some_inj, targets_lie, valid_of_cell}
use Rattle.stack_driver.specs.Targets.{Cell, Target}
use Rattle.stack_driver.specs.declared.error.TargetError.{TargetError}
use Rattle.stack_driver.specs.Views.{targets_of}
use Rattle.stack_driver.specs.declared.view.View.{View}
use Rattle.chunk_fetches.specs.Fetches.{IsChunkOf}
use Rattle.chunk_fetches.specs.Outline.{outline, outlined_event}
use Rattle.chunk_fetches.proofs.Laws.{known-outline, grows_in}
use Rattle.chunk_fetches.specs.Operations.{HasSites}
use Rattle.chunk_fetches.specs.Pieces.{AreCells, IsPiece}
use Rattle.chunk_fetches.specs.Sites.{Site, pairs_at, sites_of}
use Rattle.chunk_fetches.specs.declared.Piece.{Piece}
use Rattle.chunk_fetches.specs.declared.ViewCells.{ViewCells}
use Rattle.chunk_fetches.proofs.Laws.{IsSiteIn, known_sites}
use Rattle.chunk_fetches.specs.Looking.{AreChunks}
use Rattle.chunk_fetches.specs.Sources.{is_new, new_pieces}
use Rattle.chunk_fetches.specs.Kept.{chunk_at}
use Rattle.chunk_fetches.specs.declared.source.Source.{Source}
use Rattle.transactions.proofs.ViewLaws.{leaves_of_known}

module _ (events : History) (legal : IsLegal finmap.empty (outline events)) where
  -- the chunk of a cell that once was in its array's shape is one of the array's
  pub was_index : (x : Cell) → WasInside events x → (k : Known) → known_after events x.array ≡ Some k → IsIndexOf k.info (chunk_index (chunk_shape k.info) x.index)
  was_index x was k known =
      let front : IsLegal finmap.empty (take was.seen (outline events)) = IsLegal-front finmap.empty (take was.seen (outline events)) (drop was.seen (outline events)) (subst (IsLegal finmap.empty) (sym (take-append-drop was.seen (outline events))) legal) in
      let early : known_after (take was.seen (outline events)) x.array ≡ Some was.array = ap (λ h. known_after h x.array) (take-map outlined_event was.seen events) ∙ known-outline x.array (take was.seen events) ∙ was.known in
      let valid = valid_of_cell finmap.empty x.array (take was.seen (outline events)) was.array x.index front early was.inside in
      let later = grows_in events legal was.seen x.array was.array was.known in
      let same : k ≡ later.0 = some_inj k later.0 (sym known ∙ later.1) in
      subst (λ i. IsIndexOf i (chunk_index (chunk_shape i) x.index)) (sym (ap (λ (l : Known). l.info) same ∙ later.2)) valid

  site_chunk : (s : Site) → IsSiteIn events s → WasInside events s.target.cell → IsChunkOf events (chunk_at s.id)
  site_chunk s is was =
      subst (λ id. IsChunkOf events (chunk_at id)) (sym is.id)
      (record { array = is.array; known = is.known; valid = was_index s.target.cell was is.array is.known })

  site_chunks : (sites : List Site) (ts : List (Result Target TargetError)) → ts ≡ map (λ (s : Site). Ok s.target) sites → AllByRecursion (IsSiteIn events) sites
      → AllByRecursion (LiesOf events) ts → AllByRecursion (λ (s : Site). IsChunkOf events (chunk_at s.id)) sites
  site_chunks sites ts same are lie = by sites are (subst (AllByRecursion (LiesOf events)) same lie)
    where
      by : (ss : List Site) → AllByRecursion (IsSiteIn events) ss → AllByRecursion (LiesOf events) (map (λ (s : Site). Ok s.target) ss)
          → AllByRecursion (λ (s : Site). IsChunkOf events (chunk_at s.id)) ss
      by [] all lies = tt
      by (s ∷ ss) all lies = (site_chunk s all.0 lies.0, by ss all.1 lies.1)

-- a piece has a site
pub has_site : (P : List ℕ → Type 0) (id : List ℕ) (k : ℕ) (sites : List Site) → pairs_at id k sites ≢ [] → AllByRecursion (λ (s : Site). P s.id) sites → P id
has_site P id k [] some all = absurd (some refl)
has_site P id k (s ∷ sites) some all = by (bytes_eq s.id id) refl (λ rest. has_site P id (k + 1) sites rest all.1)
  where
    by : (b : Bool) → bytes_eq s.id id ≡ b → (pairs_at id (k + 1) sites ≢ [] → P id) → P id
    by true is rest = subst P ((bytes_eq-Decides s.id id).0 is) all.0
    by false isnt rest = rest (λ none. some (ap (λ b. cond b (record { view = k; chunk = s.place } ∷ pairs_at id (k + 1) sites) (pairs_at id (k + 1) sites)) isnt ∙ none))

piece_chunks : (events : History) (sites : List Site) (pieces : List Piece) → AllByRecursion (λ (s : Site). IsChunkOf events (chunk_at s.id)) sites → AllByRecursion (IsPiece sites) pieces → AreChunks events pieces
piece_chunks events sites [] chunks each = tt
piece_chunks events sites (p ∷ pieces) chunks each = (has_site (λ id. IsChunkOf events (chunk_at id)) p.id 0 sites each.0.some chunks, piece_chunks events sites pieces chunks each.1)

-- the pieces of a view of arrays of the history are of chunks of theirs, whatever shapes they got since
pub known_pieces : (events : History) (v : View) (cells : ViewCells) → IsLegal finmap.empty (outline events) → HasKnownRefs events v → HasSites v → AreCells (sites_of v) cells → AreChunks events cells.pieces
known_pieces events v cells legal refs has are =
    piece_chunks events (sites_of v) cells.pieces
    (site_chunks events legal (sites_of v) (targets_of v) has.targets (known_sites events v (leaves_of_known events v legal refs) has.grids) (targets_lie events v refs)) are.pieces.each

-- so are those that are to be fetched
pub new_chunks : (events : History) (sources : List Source) (pieces : List Piece) → AreChunks events pieces → AreChunks events (new_pieces sources pieces)
new_chunks events [] pieces are = tt
new_chunks events (s ∷ sources) [] are = tt
new_chunks events (s ∷ sources) (p ∷ pieces) are = by (is_new s) refl (new_chunks events sources pieces are.1)
  where
    by : (b : Bool) → is_new s ≡ b → AreChunks events (new_pieces sources pieces) → AreChunks events (new_pieces (s ∷ sources) (p ∷ pieces))
    by true is rest = subst (AreChunks events) (sym (ap (λ b. cond b (p ∷ new_pieces sources pieces) (new_pieces sources pieces)) is)) (are.0, rest)
    by false isnt rest = subst (AreChunks events) (sym (ap (λ b. cond b (p ∷ new_pieces sources pieces) (new_pieces sources pieces)) isnt)) rest
