-- What a read has of the chunks of a view's pieces.
use Rattle.std.specs.Prelude.{◌≡◌, ◌+◌, ℕ, List, [], ◌∷◌, map, true, false, Option, Some, None}
use Rattle.std.specs.List.{slice_get}
use Rattle.std.specs.Option.{option_map}
use Rattle.cells.specs.Dense.{IsDense}
use Rattle.chunk_cache.specs.Snapshot.{SnapshotCells}
use Rattle.history.specs.History.{History}
use Rattle.history.specs.Reads.{Marks, has_mark, mark_of}
use Rattle.chunk_fetches.specs.Agreement.{Opening}
use Rattle.chunk_fetches.specs.Needs.{needs}
use Rattle.chunk_fetches.specs.Staging.{StagedChunk}
use Rattle.chunk_fetches.specs.declared.Piece.{Piece}
use Rattle.chunk_fetches.specs.Kept.{IsKeptIn, chunk_at}
use Rattle.chunk_fetches.specs.Sources.{count_new}
use Rattle.chunk_fetches.specs.declared.kept.Kept.{Kept}
use Rattle.chunk_fetches.specs.declared.source.Source.{Source}
use Rattle.chunk_fetches.specs.declared.source.Source.TheVariants.{Covered, Old, New}

-- the chunk of a piece: one that is kept, or one that was fetched, where so many were for the pieces before it
abbrev pub had_of : Source → List Kept → List Kept → ℕ → Option Kept
had_of Covered kept fetched next = None
had_of (Old place) kept fetched next = slice_get kept place
had_of New kept fetched next = slice_get fetched next

-- the same of each piece, in order
abbrev pub had_from : List Source → List Kept → List Kept → ℕ → List (Option Kept)
had_from [] kept fetched next = []
had_from (s ∷ sources) kept fetched next = had_of s kept fetched next ∷ had_from sources kept fetched (next + count_new s)

abbrev pub snapshot_of : Option Kept → Option SnapshotCells
snapshot_of had = option_map (λ (k : Kept). k.snapshot) had

-- the cells of the chunks
abbrev pub snapshots_of : List (Option Kept) → List (Option SnapshotCells)
snapshots_of had = map snapshot_of had

-- a chunk has a word of its dtype for each cell of its shape
abbrev pub IsDenseOrNone : Option SnapshotCells → Type 0
IsDenseOrNone None = Unit {0}
IsDenseOrNone (Some s) = IsDense s.cells

-- a chunk that is needed for a piece: the one after its mark, which is the chunk's among these
pub record IsHadFor (opening : Opening) (events : History) (staged : List StagedChunk) (marks : Marks) (p : Piece) (k : Kept) : Type 0 where
  pub needed : needs staged p ≡ true
  pub same : k.id ≡ p.id
  pub marked : has_mark marks (chunk_at p.id) ≡ true
  pub mark : mark_of marks (chunk_at p.id) ≡ k.mark
  pub kept : IsKeptIn opening events k

-- there is one where the piece needs it
abbrev pub IsHad : Opening → History → List StagedChunk → Marks → Piece → Option Kept → Type 0
IsHad opening events staged marks p None = needs staged p ≡ false
IsHad opening events staged marks p (Some k) = IsHadFor opening events staged marks p k

abbrev pub AreHad : Opening → History → List StagedChunk → Marks → List Piece → List (Option Kept) → Type 0
AreHad opening events staged marks [] [] = Unit {0}
AreHad opening events staged marks [] (o ∷ had) = ⊥
AreHad opening events staged marks (p ∷ pieces) [] = ⊥
AreHad opening events staged marks (p ∷ pieces) (o ∷ had) = IsHad opening events staged marks p o × AreHad opening events staged marks pieces had
