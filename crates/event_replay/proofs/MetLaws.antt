-- A piece is met where a mark is found.
use Rattle.std.proofs.Common.{◌≡◌, ◌∙◌, ◌<◌, ◌≤◌, ℕ, List, length, get_or, Option, Some, None, refl, sym, ap, subst}
use Rattle.std.specs.Prelude.{◌↔◌, IfSome, IfNone, IsTrue, is_some}
use Rattle.std.specs.List.{AllByRecursion}
use Rattle.std.proofs.lemmas.List.Elements.{All-get_or, All-from_recursion}
use Rattle.cast_driver.specs.declared.cast.Cast.{Cast}
use Rattle.history.specs.Arrays.{Known, known_after}
use Rattle.history.specs.Chunks.{Chunk}
use Rattle.history.specs.History.{History}
use Rattle.history.proofs.Laws.{some_inj}
use Rattle.version_store.specs.Shown.{AreAskedOf}
use Rattle.version_store.specs.Asked.{AreShownAt, AreNeverShown}
use Rattle.version_store.specs.Ids.{IsChunkIn}
use Rattle.version_store.specs.Stores.{IsStoreOf}
use Rattle.version_store.specs.declared.store.VersionStore.{VersionStore}
use Rattle.event_replay.specs.declared.demand.AskedPiece.{AskedPiece}
use Rattle.event_replay.specs.Demands.{IsMetFrom, IsPieceIn, cell_of}
use Rattle.event_replay.proofs.Sites.{one_id}

-- a chunk of this id is one, of one array
same_cells : (h : History) (p : AskedPiece) (k l : Known) (c d : Chunk) → IsChunkIn h k c p.id → IsChunkIn h l d p.id → AreAskedOf h k c (cell_of k c) p.asked.items → AreAskedOf h l d (cell_of l d) p.asked.items
same_cells h p k l c d one other cells =
    let chunk : c ≡ d = one_id c d (sym one.named ∙ other.named) in
    let array : k ≡ l = some_inj k l (sym one.known ∙ ap (λ (b : Chunk). known_after h b.array) chunk ∙ other.known) in
    subst (λ (b : Chunk). AreAskedOf h l b (cell_of l b) p.asked.items) chunk (subst (λ (j : Known). AreAskedOf h j c (cell_of j c) p.asked.items) array cells)

pub piece_met : (h : History) (s : VersionStore) (casts : List (List Cast)) (p : AskedPiece) (from : ℕ) (mark : Option ℕ) → IfSome mark (AreShownAt s p.id casts p.asked.items from) → IfNone mark (AreNeverShown s p.id casts p.asked.items from)
    → IsStoreOf h s → IsPieceIn h casts p → from ≤ length h → IsTrue (is_some mark) ↔ IsMetFrom h from casts p
piece_met h s casts p from (Some m) some none store piece low = (
  λ so. record { array = piece.array; chunk = piece.chunk; in_history = piece.in_history; moment = m; shown = some h piece.array piece.chunk (cell_of piece.array piece.chunk) store piece.in_history piece.cells low },
  λ met. refl,
)
piece_met h s casts p from None some none store piece low = (
  λ so. absurd (let no_such : ⊥ = cc in no_such),
  λ met. absurd (none h met.array met.chunk (cell_of met.array met.chunk) met.moment store met.in_history (same_cells h p piece.array met.array piece.chunk met.chunk piece.in_history met.in_history piece.cells) met.shown),
)

-- one of the pieces
pub piece_at_in : (h : History) (casts : List (List Cast)) (ps : List AskedPiece) (i : ℕ) (p : AskedPiece) → AllByRecursion (IsPieceIn h casts) ps → i < length ps → p ≡ get_or ps i p → IsPieceIn h casts p
piece_at_in h casts ps i p all low is = subst (IsPieceIn h casts) (sym is) (All-get_or (IsPieceIn h casts) ps i p low (All-from_recursion (IsPieceIn h casts) ps all))

pub met_at : (h : History) (from : ℕ) (casts : List (List Cast)) (ps : List AskedPiece) (i : ℕ) (p : AskedPiece) → AllByRecursion (IsMetFrom h from casts) ps → i < length ps → p ≡ get_or ps i p → IsMetFrom h from casts p
met_at h from casts ps i p all low is = subst (IsMetFrom h from casts) (sym is) (All-get_or (IsMetFrom h from casts) ps i p low (All-from_recursion (IsMetFrom h from casts) ps all))
