-- What a read asks of the first events of a stated history it asks of the history.
use Rattle.std.proofs.Common.{◌≡◌, ◌∙◌, ℕ, List, [], ◌∷◌, Some, sym, ap}
use Rattle.std.specs.List.{AllByRecursion}
use Rattle.cast_driver.specs.declared.cast.Cast.{Cast}
use Rattle.chunk_versions.specs.declared.asked.AskedCell.{AskedCell}
use Rattle.line_fits.specs.Demands.{IsPieceIn, cell_of}
use Rattle.line_fits.specs.Sweeps.{IsFront}
use Rattle.line_fits.specs.declared.AskedPiece.{AskedPiece}
use Rattle.line_fits.proofs.Laws.{known_later}
use Rattle.history.specs.Arrays.{Known, known_after}
use Rattle.history.specs.Chunks.{Chunk, chunk_in}
use Rattle.history.specs.History.{History}
use Rattle.history.specs.Legal.{is_present_in}
use Rattle.history.specs.Targets.{Cell}
use Rattle.history.proofs.Laws.{chunk_array}
use Rattle.version_store.specs.Kept.{IsCellOf}
use Rattle.version_store.specs.Shown.{AreAskedOf}

module _ (events before : History) (opened : ℕ) (front : IsFront events before opened) where
  cell_later : (c : Chunk) (k : Known) (x : Cell) → known_after before c.array ≡ Some k → IsCellOf before c x → IsCellOf events c x
  cell_later c k x known cell =
      let array : x.array ≡ c.array = sym (chunk_array (known_after before x.array) x) ∙ ap (λ (d : Chunk). d.array) cell.chunk in
      let here : known_after before x.array ≡ Some k = ap (known_after before) array ∙ known in
      let same : known_after events x.array ≡ known_after before x.array = known_later events before opened front x.array k here ∙ sym here in
      record {
        chunk = ap (λ o. chunk_in o x) same ∙ cell.chunk;
        present = ap (λ o. is_present_in o x) same ∙ cell.present;
      }

  asked_later : (c : Chunk) (k : Known) (f : AskedCell → Cell) (asked : List AskedCell) → known_after before c.array ≡ Some k → AreAskedOf before k c f asked → AreAskedOf events k c f asked
  asked_later c k f [] known all = tt
  asked_later c k f (a ∷ asked) known all = (record { cell = cell_later c k (f a) known all.0.cell; place = all.0.place }, asked_later c k f asked known all.1)

  piece_later : (casts : List (List Cast)) (p : AskedPiece) → IsPieceIn before casts p → IsPieceIn events casts p
  piece_later casts p piece =
      let c = piece.chunk in
      let k = piece.array in
      let known = piece.in_history.known in
      record {
        array = k;
        chunk = c;
        in_history = record { named = piece.in_history.named; known = known_later events before opened front c.array k known; cell = piece.in_history.cell; has = cell_later c k piece.in_history.cell known piece.in_history.has };
        cells = asked_later c k (cell_of k c) p.asked.items known piece.cells;
        casts_there = piece.casts_there;
      }

  pub pieces_later : (casts : List (List Cast)) (ps : List AskedPiece) → AllByRecursion (IsPieceIn before casts) ps → AllByRecursion (IsPieceIn events casts) ps
  pieces_later casts [] all = tt
  pieces_later casts (p ∷ ps) all = (piece_later casts p all.0, pieces_later casts ps all.1)
