-- Whether a read calls the store.
use Rattle.std.specs.Prelude.{◌≡◌, ◌<◌, ℕ, get_or, List, length, true, false, Some}
use Rattle.history.specs.Arrays.{Known, known_after}
use Rattle.history.specs.History.{History}
use Rattle.history.specs.ReadRows.{IsOnMount}
use Rattle.stated_arrays.specs.Outcomes.{IsOpenedAs}
use Rattle.transaction_cells.specs.Needs.{needs}
use Rattle.transaction_cells.specs.Staging.{StagedChunk}
use Rattle.transaction_cells.specs.declared.view_cells.Piece.{Piece}
use Rattle.line_fits.specs.Transcript.{mount}
use Rattle.read_fits.specs.Owned.{Id, has_id}

-- for each array of the events the number of the one that opened it, as it is
abbrev pub HasInfos : History → List ℕ → Type 0
HasInfos events opened = (a : ℕ) (k : Known) → known_after events a ≡ Some k → IsOpenedAs events opened a k.info

-- the piece's array is there
abbrev pub IsKnownPiece : History → Piece → Type 0
IsKnownPiece events p = (k : Known) × (known_after events (get_or p.id 0 0) ≡ Some k)

-- the piece is of a stored chunk that is needed, and that none of these ids names
pub record IsFetchedPiece (events : History) (staged : List StagedChunk) (ids : List Id) (p : Piece) : Type 0 where
  pub needed : needs staged p ≡ true
  pub unread : has_id ids p.id ≡ false
  pub on_mount : IsOnMount mount (known_after events (get_or p.id 0 0))

-- so is one of the pieces
abbrev pub HasFetchedPiece : History → List StagedChunk → List Id → List Piece → Type 0
HasFetchedPiece events staged ids pieces =
    (i : ℕ) × (i < length pieces) × ((d : Piece) → IsFetchedPiece events staged ids (get_or pieces i d))
