-- Chunks that were fetched for pieces of a view.
use Rattle.std.specs.Prelude.{◌≡◌, ◌≤◌, ℕ, List, [], ◌∷◌}
use Rattle.history.specs.History.{History}
use Rattle.shared_state.specs.Agreement.{Opening}
use Rattle.transaction_cells.specs.declared.view_cells.Piece.{Piece}
use Rattle.chunk_fetches.specs.Kept.{IsKeptIn}
use Rattle.chunk_fetches.specs.declared.kept.Kept.{Kept}
use Rattle.chunk_fetches.specs.declared.looked.Fresh.{Fresh}

-- a chunk of a piece as it is kept, and those of pieces in order
abbrev pub kept_as : ℕ → Piece → Fresh → Kept
kept_as mark p f = record { id = p.id; key = f.key; snapshot = f.snapshot; bounds = f.bounds; mark = mark }

abbrev pub kept_from : ℕ → List Piece → List Fresh → List Kept
kept_from mark [] fresh = []
kept_from mark (p ∷ pieces) [] = []
kept_from mark (p ∷ pieces) (f ∷ fresh) = kept_as mark p f ∷ kept_from mark pieces fresh

-- a chunk that was fetched for a piece, as it was at this number of events
pub record IsFetchedFor (opening : Opening) (events : History) (mark : ℕ) (p : Piece) (k : Kept) : Type 0 where
  pub same : k.id ≡ p.id
  pub at_mark : k.mark ≡ mark
  pub kept : IsKeptIn opening events k

-- one for each piece
abbrev pub AreFetchedAt : Opening → History → ℕ → List Piece → List Kept → Type 0
AreFetchedAt opening events mark [] [] = Unit {0}
AreFetchedAt opening events mark [] (k ∷ fetched) = ⊥
AreFetchedAt opening events mark (p ∷ pieces) [] = ⊥
AreFetchedAt opening events mark (p ∷ pieces) (k ∷ fetched) = IsFetchedFor opening events mark p k × AreFetchedAt opening events mark pieces fetched

-- all at one number of events, no less than were seen before
pub record AreFetched (opening : Opening) (seen : ℕ) (events : History) (pieces : List Piece) (fetched : List Kept) : Type 0 where
  pub mark : ℕ
  pub since : seen ≤ mark
  pub each : AreFetchedAt opening events mark pieces fetched
