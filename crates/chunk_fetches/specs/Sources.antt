-- Where a read has the chunks of a view's pieces from.
use Rattle.std.specs.Prelude.{ℕ, List, [], ◌∷◌, map, Bool, true, false, Option, Some, None, if◌then◌else◌}
use Rattle.transaction_cells.specs.Needs.{needs}
use Rattle.transaction_cells.specs.Staging.{StagedChunk}
use Rattle.transaction_cells.specs.declared.view_cells.Piece.{Piece}
use Rattle.chunk_fetches.specs.Kept.{place_from}
use Rattle.chunk_fetches.specs.declared.kept.Kept.{Kept}
use Rattle.chunk_fetches.specs.declared.source.Source.{Source}
use Rattle.chunk_fetches.specs.declared.source.Source.TheVariants.{Covered, Old, New}

abbrev pub is_new : Source → Bool
is_new Covered = false
is_new (Old place) = false
is_new New = true

abbrev pub source_at : Option ℕ → Source
source_at None = New
source_at (Some place) = Old place

-- what is staged covers the piece, or its chunk is kept, or it is to be fetched
abbrev pub source_of : List StagedChunk → List Kept → Piece → Source
source_of staged kept p = if needs staged p then source_at (place_from 0 kept p.id) else Covered

abbrev pub sources_of : List StagedChunk → List Kept → List Piece → List Source
sources_of staged kept pieces = map (source_of staged kept) pieces

-- the pieces whose chunks are to be fetched
abbrev pub new_pieces : List Source → List Piece → List Piece
new_pieces [] pieces = []
new_pieces (s ∷ sources) [] = []
new_pieces (s ∷ sources) (p ∷ pieces) = if is_new s then p ∷ new_pieces sources pieces else new_pieces sources pieces

-- how many chunks are fetched for a piece
abbrev pub count_new : Source → ℕ
count_new Covered = 0
count_new (Old place) = 0
count_new New = 1
