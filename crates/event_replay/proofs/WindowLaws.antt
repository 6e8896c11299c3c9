-- What a read asks of a stated history is met by its first events, or not.
use Rattle.std.proofs.Common.{◌≡◌, ◌∙◌, ◌<◌, ◌≤◌, ℕ, List, [], ◌∷◌, length, take, get_or, Bool, Some, sym, ap, subst}
use Rattle.std.specs.Prelude.{◌↔◌, IsTrue}
use Rattle.std.specs.List.{AllByRecursion}
use Rattle.cast_driver.specs.declared.cast.Cast.{Cast}
use Rattle.chunk_versions.specs.declared.asked.AskedCell.{AskedCell}
use Rattle.history.specs.Arrays.{Known, known_after}
use Rattle.history.specs.Chunks.{Chunk, chunk_in}
use Rattle.history.specs.History.{History}
use Rattle.history.specs.Legal.{is_present_in}
use Rattle.history.specs.Targets.{Cell}
use Rattle.history.proofs.Laws.{chunk_array, some_inj}
use Rattle.version_store.specs.Kept.{IsCellOf}
use Rattle.version_store.specs.Shown.{AreAskedOf}
use Rattle.event_replay.specs.Demands.{AreMetFrom, IsMetFrom, IsPieceIn, cell_of}
use Rattle.event_replay.specs.Sweeps.{IsFront, IsMetIn}
use Rattle.event_replay.specs.declared.demand.AskedPiece.{AskedPiece}
use Rattle.event_replay.specs.declared.waiting.Waiting.{Waiting}
use Rattle.event_replay.proofs.Fronts.{front_is, known_later, known_low, low_known}

-- the chunk of a piece is of an array with a number below this one
abbrev pub IsAskedBelow : ℕ → AskedPiece → Type 0
IsAskedBelow n p = get_or p.id 0 0 < n

module _ (events before : History) (opened : ℕ) (front : IsFront events before opened) where
  cell_before : (c : Chunk) (k : Known) (x : Cell) → known_after before c.array ≡ Some k → IsCellOf events c x → IsCellOf before c x
  cell_before c k x known cell =
      let array : x.array ≡ c.array = sym (chunk_array (known_after events x.array) x) ∙ ap (λ (d : Chunk). d.array) cell.chunk in
      let here : known_after before x.array ≡ Some k = ap (known_after before) array ∙ known in
      let same : known_after before x.array ≡ known_after events x.array = here ∙ sym (known_later events before opened front x.array k here) in
      record {
        chunk = ap (λ o. chunk_in o x) same ∙ cell.chunk;
        present = ap (λ o. is_present_in o x) same ∙ cell.present;
      }

  asked_before : (c : Chunk) (k : Known) (f : AskedCell → Cell) (asked : List AskedCell) → known_after before c.array ≡ Some k → AreAskedOf events k c f asked → AreAskedOf before k c f asked
  asked_before c k f [] known all = tt
  asked_before c k f (a ∷ asked) known all = (record { cell = cell_before c k (f a) known all.0.cell; place = all.0.place }, asked_before c k f asked known all.1)

  -- a piece of an array that is there is one of the first events
  piece_before : (casts : List (List Cast)) (p : AskedPiece) → IsPieceIn events casts p → IsAskedBelow opened p → IsPieceIn before casts p
  piece_before casts p piece low =
      let c = piece.chunk in
      let number : get_or p.id 0 0 ≡ c.array = ap (λ (id : List ℕ). get_or id 0 0) piece.in_history.named in
      let k = low_known events before opened front c.array (subst (λ n. n < opened) number low) in
      let same : k.0 ≡ piece.array = some_inj k.0 piece.array (sym (known_later events before opened front c.array k.0 k.1) ∙ piece.in_history.known) in
      let known : known_after before c.array ≡ Some piece.array = k.1 ∙ ap Some same in
      record {
        array = piece.array;
        chunk = c;
        in_history = record { named = piece.in_history.named; known = known; cell = piece.in_history.cell; has = cell_before c piece.array piece.in_history.cell known piece.in_history.has };
        cells = asked_before c piece.array (cell_of piece.array c) p.asked.items known piece.cells;
        casts_there = piece.casts_there;
      }

  pub pieces_before : (casts : List (List Cast)) (ps : List AskedPiece) → AllByRecursion (IsPieceIn events casts) ps → AllByRecursion (IsAskedBelow opened) ps → AllByRecursion (IsPieceIn before casts) ps
  pieces_before casts [] all low = tt
  pieces_before casts (p ∷ ps) all low = (piece_before casts p all.0 low.0, pieces_before casts ps all.1 low.1)

  -- one that is met is of an array that is there
  pub met_below : (from : ℕ) (casts : List (List Cast)) (ps : List AskedPiece) → AllByRecursion (IsMetFrom before from casts) ps → AllByRecursion (IsAskedBelow opened) ps
  met_below from casts [] all = tt
  met_below from casts (p ∷ ps) all = (
    (let met = all.0 in
        let number : get_or p.id 0 0 ≡ met.chunk.array = ap (λ (id : List ℕ). get_or id 0 0) met.in_history.named in
        subst (λ n. n < opened) (sym number) (known_low events before opened front met.chunk.array met.array met.in_history.known)),
    met_below from casts ps all.1,
  )

  -- at the end of a window
  module _ (w : Waiting) (end : length before ≡ w.upto) where
    front_end : take w.upto events ≡ before
    front_end = ap (λ n. take n events) (sym end) ∙ front_is events before opened front

    pub met_here : IsMetIn events w → AreMetFrom before w.from w.demand
    met_here met = subst (λ h. AreMetFrom h w.from w.demand) front_end met.met

    pub met_if : w.from ≤ w.upto → AreMetFrom before w.from w.demand → IsMetIn events w
    met_if low met = record { moment = low; met = subst (λ h. AreMetFrom h w.from w.demand) (sym front_end) met }

    -- the answer for the first events tells whether it is met
    pub end_told : (met : Bool) → w.from ≤ w.upto → IsTrue met ↔ AreMetFrom before w.from w.demand → IsTrue met ↔ IsMetIn events w
    end_told met low told = (λ so. met_if low (told.0 so), λ is. told.1 (met_here is))
