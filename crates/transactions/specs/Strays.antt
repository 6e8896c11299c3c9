-- Cells that a read needs outside the shapes that their arrays had when their chunks were read.
use Rattle.std.specs.Prelude.{◌≡◌, ◌≤◌, ℕ, List, [], ◌∷◌, take, false, Option, Some, None, Contains, if◌then◌else◌}
use Rattle.history.specs.Arrays.{Known, known_after}
use Rattle.history.specs.Chunks.{metadata_key}
use Rattle.history.specs.Commit.{Key, is_before}
use Rattle.history.specs.History.{History}
use Rattle.chunk_fetches.specs.Outside.{IsInGrid, needs_outside}
use Rattle.chunk_fetches.specs.Staging.{StagedChunk}
use Rattle.chunk_fetches.specs.declared.Piece.{Piece}
use Rattle.chunk_fetches.specs.Kept.{chunk_at}
use Rattle.chunk_fetches.specs.declared.kept.Kept.{Kept}
use Rattle.transactions.specs.declared.stray.Stray.{Stray}

abbrev pub stray_of : Kept → Stray
stray_of k = record { array = (chunk_at k.id).array; mark = k.mark; resized = k.bounds.resized }

-- what there is of a piece of whose chunk a cell is needed outside
abbrev pub stray_at : List StagedChunk → Piece → Option Kept → Option Stray
stray_at staged p None = None
stray_at staged p (Some k) = if needs_outside k.bounds.shape k.snapshot.cells.shape staged p then Some (stray_of k) else None

abbrev pub with_stray : Option Stray → List Stray → List Stray
with_stray None strays = strays
with_stray (Some s) strays = s ∷ strays

-- one for each such piece, in order
abbrev pub strays_of : List StagedChunk → List Piece → List (Option Kept) → List Stray
strays_of staged [] had = []
strays_of staged (p ∷ pieces) [] = []
strays_of staged (p ∷ pieces) (o ∷ had) = with_stray (stray_at staged p o) (strays_of staged pieces had)

-- the bounds and the cells of a chunk that a read has fit its piece
abbrev pub IsFitting : Piece → Option Kept → Type 0
IsFitting p None = Unit {0}
IsFitting p (Some k) = IsInGrid k.bounds.shape k.snapshot.cells.shape p

abbrev pub AreFitting : List Piece → List (Option Kept) → Type 0
AreFitting [] had = Unit {0}
AreFitting (p ∷ pieces) [] = ⊥
AreFitting (p ∷ pieces) (o ∷ had) = IsFitting p o × AreFitting pieces had

-- the array of one of these, and its metadata key, which is the least of all their arrays'
pub record HasLeastKey (events : History) (strays : List Stray) (array : ℕ) (key : Key) : Type 0 where
  pub stray : Stray
  pub among : Contains strays stray
  pub of_array : stray.array ≡ array
  pub named : (k : Known) → known_after events array ≡ Some k → metadata_key k ≡ Some key
  pub least : (s : Stray) → Contains strays s → (k : Known) → known_after events s.array ≡ Some k → (other : Key) → metadata_key k ≡ Some other → is_before other key ≡ false

-- the number that the one with the greatest mark of the array has
pub record HasLastNumber (strays : List Stray) (array number : ℕ) : Type 0 where
  pub stray : Stray
  pub among : Contains strays stray
  pub of_array : stray.array ≡ array
  pub number_is : stray.resized ≡ number
  pub last : (s : Stray) → Contains strays s → s.array ≡ array → s.mark ≤ stray.mark
