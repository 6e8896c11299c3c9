-- A read calls the store where one of its pieces is fetched.
use Rattle.std.proofs.Common.{◌≡◌, ◌∙◌, ◌<◌, ◌||◌, ℕ, zero, suc, List, [], ◌∷◌, length, get_or, Bool, true, false, refl, sym, ap, subst, arith}
use Rattle.std.specs.Prelude.{◌&&◌, ◌↔◌}
use Rattle.std.specs.Str.{bytes_eq}
use Rattle.std.proofs.lemmas.List.Elements.{All-get_or, All-from_recursion}
use Rattle.std.proofs.lemmas.Slice.Eq.{bytes_eq-Decides}
use Rattle.history.specs.Arrays.{known_after}
use Rattle.history.specs.Chunks.{Chunk}
use Rattle.history.specs.Commit.{Transaction}
use Rattle.history.specs.History.{History}
use Rattle.history.specs.ReadRows.{IsOnMount}
use Rattle.stack_driver.specs.declared.view.View.{View}
use Rattle.transaction_cells.specs.Needs.{needs}
use Rattle.transaction_cells.specs.Operations.{HasSites}
use Rattle.transaction_cells.specs.Pieces.{AreCells, IsPiece}
use Rattle.transaction_cells.specs.Sites.{sites_of}
use Rattle.transaction_cells.specs.Staging.{StagedChunk}
use Rattle.transaction_cells.specs.declared.view_cells.Piece.{Piece}
use Rattle.transaction_cells.specs.declared.view_cells.ViewCells.{ViewCells}
use Rattle.line_fits.specs.Fitting.{IsFetched}
use Rattle.locations.specs.Paths.{Located}
use Rattle.stated_arrays.specs.Outcomes.{AreKeptOf}
use Rattle.stated_arrays.specs.Outline.{outline}
use Rattle.stated_arrays.proofs.Laws.{known-outline}
use Rattle.stated_arrays.proofs.Laws.{known_by}
use Rattle.line_fits.specs.Transcript.{mount}
use Rattle.version_store.specs.Ids.{id_of}
use Rattle.read_fits.specs.Fetches.{HasFetchedPiece, HasInfos, IsKnownPiece}
use Rattle.read_fits.specs.Owned.{AreOwn, Id, IsThere, has_id, is_needed}
use Rattle.read_fits.proofs.NeededChunks.{chunk_with, needed_chunk, or_right, piece_known}

-- a piece of those that are needed
needed_at : (staged : List StagedChunk) (ps : List Piece) (i : ℕ) (d : Piece) → i < length ps → needs staged (get_or ps i d) ≡ true → is_needed staged ps (get_or ps i d).id ≡ true
needed_at staged [] i d lt need = absurd (omega (arith, lt))
needed_at staged (p ∷ ps) zero d lt need =
    ap (λ b. (b && bytes_eq p.id p.id) || is_needed staged ps p.id) need ∙ ap (λ b. b || is_needed staged ps p.id) ((bytes_eq-Decides p.id p.id).1 refl)
needed_at staged (p ∷ ps) (suc i) d lt need =
    or_right (needs staged p && bytes_eq p.id (get_or ps i d).id) (is_needed staged ps (get_or ps i d).id) (needed_at staged ps i d (omega (arith, lt)) need)

needed_place : (staged : List StagedChunk) (ps : List Piece) (id : List ℕ) → is_needed staged ps id ≡ true → (i : ℕ) × (i < length ps) × ((d : Piece) → (needs staged (get_or ps i d) ≡ true) × ((get_or ps i d).id ≡ id))
needed_place staged [] id so = absurd (cc)
needed_place staged (p ∷ ps) id so = by (needs staged p) (bytes_eq p.id id) refl refl (λ rest. needed_place staged ps id rest) so
  where
    by : (b c : Bool) → needs staged p ≡ b → bytes_eq p.id id ≡ c → (is_needed staged ps id ≡ true → (i : ℕ) × (i < length ps) × ((d : Piece) → (needs staged (get_or ps i d) ≡ true) × ((get_or ps i d).id ≡ id)))
        → ((b && c) || is_needed staged ps id) ≡ true → (i : ℕ) × (i < length (p ∷ ps)) × ((d : Piece) → (needs staged (get_or (p ∷ ps) i d) ≡ true) × ((get_or (p ∷ ps) i d).id ≡ id))
    by true true need same rest more = (zero, omega arith, λ d. (need, (bytes_eq-Decides p.id id).0 same))
    by true false need same rest more = let found = rest more in let lt = found.1 in (suc found.0, omega arith, λ d. found.2 d)
    by false c need same rest more = let found = rest more in let lt = found.1 in (suc found.0, omega arith, λ d. found.2 d)

not_true : (b : Bool) → (b ≡ true → ⊥) → b ≡ false
not_true true none = absurd (none refl)
not_true false none = refl

abbrev pub no_piece : Piece
no_piece = record { id = []; size = 0; runs = [] }

-- the tables of arrays tell how each was opened
pub infos_kept : (events : History) (opened : List ℕ) (places : Located) → AreKeptOf events opened places → HasInfos events opened
infos_kept events opened places is a k known =
    let by = known_by a events is.still k known in
    (k.opened, is.numbered a k known, record { at = by.at; event = by.event; place = by.number; there = by.there; kind = by.kind })

-- the outline has the arrays of the history
pub known_in : (h events : History) → outline h ≡ events → (a : ℕ) → known_after events a ≡ known_after h a
known_in h events same a = ap (λ g. known_after g a) (sym same) ∙ known-outline a h

module _ (h events : History) (same : outline h ≡ events) (n : ℕ) (view : View) (t : Transaction) (staged : List StagedChunk) (ids : List Id) (cells : ViewCells) (is : IsThere h n view) (own : AreOwn h n t.ops staged ids) (sites : HasSites view) (cut : AreCells (sites_of view) cells) where
  piece_at : (i : ℕ) (d : Piece) → i < length cells.pieces → IsPiece (sites_of view) (get_or cells.pieces i d)
  piece_at i d lt = All-get_or (IsPiece (sites_of view)) cells.pieces i d lt (All-from_recursion (IsPiece (sites_of view)) cells.pieces cut.pieces.each)

  pub known_at : (i : ℕ) (d : Piece) → i < length cells.pieces → IsKnownPiece events (get_or cells.pieces i d)
  known_at i d lt =
      let p = get_or cells.pieces i d in
      let found = piece_known h n view t.ops staged cells is own.writes sites cut p (piece_at i d lt) in
      (found.0, known_in h events same (get_or p.id 0 0) ∙ found.1)

  -- the chunk of an id lies on the mount by the outline as by the history
  mounted : (id : List ℕ) (c : Chunk) → id_of c ≡ id → IsOnMount mount (known_after events (get_or id 0 0)) → IsOnMount mount (known_after h c.array)
  mounted id c named on = subst (IsOnMount mount) (known_in h events same c.array) (subst (λ (i : List ℕ). IsOnMount mount (known_after events (get_or i 0 0))) (sym named) on)

  unmounted : (id : List ℕ) (c : Chunk) → id_of c ≡ id → IsOnMount mount (known_after h c.array) → IsOnMount mount (known_after events (get_or id 0 0))
  unmounted id c named on = subst (λ (i : List ℕ). IsOnMount mount (known_after events (get_or i 0 0))) named (subst (IsOnMount mount) (sym (known_in h events same c.array)) on)

  calls : HasFetchedPiece events staged ids cells.pieces → IsFetched h t view
  calls (i, lt, each) =
      let p = get_or cells.pieces i no_piece in
      let fetched = each no_piece in
      let c = chunk_with h n view t.ops staged cells is own.writes sites cut p (piece_at i no_piece lt) fetched.needed in
      record {
        chunk = c.0;
        needed = (needed_chunk h n view t.ops staged cells is own.writes sites cut c.0).1 (ap (is_needed staged cells.pieces) c.1 ∙ needed_at staged cells.pieces i no_piece lt fetched.needed);
        unread = λ at. (let clash : true ≡ false = sym ((own.reads c.0).0 at) ∙ ap (has_id ids) c.1 ∙ fetched.unread in cc);
        on_mount = mounted p.id c.0 c.1 fetched.on_mount;
      }

  called : IsFetched h t view → HasFetchedPiece events staged ids cells.pieces
  called f =
      let found = needed_place staged cells.pieces (id_of f.chunk) ((needed_chunk h n view t.ops staged cells is own.writes sites cut f.chunk).0 f.needed) in (
        found.0,
        found.1,
        λ d.
            let p = found.2 d in
            record {
              needed = p.0;
              unread = ap (has_id ids) p.1 ∙ not_true (has_id ids (id_of f.chunk)) (λ so. f.unread ((own.reads f.chunk).1 so));
              on_mount = unmounted (get_or cells.pieces found.0 d).id f.chunk (sym p.1) f.on_mount;
            },
      )

  pub fetched_is : HasFetchedPiece events staged ids cells.pieces ↔ IsFetched h t view
  fetched_is = (calls, called)
