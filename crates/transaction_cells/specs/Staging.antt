-- What is staged of each chunk.
use Rattle.std.specs.Prelude.{◌≡◌, ◌<◌, ◌≤◌, ◌^◌, ℕ, List, [], ◌∷◌, length, map, replicate, slice_set, Option, Some, None, unwrap_or, if◌then◌else◌}
use Rattle.std.specs.List.{AllByRecursion}
use Rattle.std.specs.Str.{bytes_eq}
use Rattle.rebase_writes.specs.Staged.{staged_at}
use Rattle.stack_driver.specs.Targets.{inwards}
use Rattle.transaction_cells.specs.Found.{Id}
use Rattle.transaction_cells.specs.Pieces.{AreCells}
use Rattle.transaction_cells.specs.Sites.{Site}
use Rattle.transaction_cells.specs.declared.view_cells.ViewCells.{ViewCells}

-- a chunk by its id, and at each place the staged word or none
pub record StagedChunk : Type 0 where
  pub id : List ℕ
  pub cells : List (Option ℕ)

-- the entries of a table
abbrev pub chunks_of : List (Id × List (Option ℕ)) → List StagedChunk
chunks_of entries = map (λ e. record { id = e.0.items; cells = e.1 }) entries

-- the cells that are staged of a chunk, none where there is nothing of it
abbrev pub staged_of : List StagedChunk → List ℕ → Option (List (Option ℕ))
staged_of [] id = None
staged_of (c ∷ chunks) id = if bytes_eq id c.id then Some c.cells else staged_of chunks id

-- the word that is staged at a place of a chunk
abbrev pub word_in : List StagedChunk → List ℕ → ℕ → Option ℕ
word_in chunks id place = staged_at (unwrap_or (staged_of chunks id) []) place

-- a chunk's cells with a word at a site
abbrev pub with_word : Site → ℕ → Option (List (Option ℕ)) → Option (List (Option ℕ))
with_word s word cells =
    Some (slice_set (unwrap_or cells (replicate s.size None)) s.place (Some (inwards s.target.casts word)))

-- a chunk's cells once the words of a view are put at those of its sites that lie in the chunk, one after another
abbrev pub written_at : List ℕ → List Site → List ℕ → Option (List (Option ℕ)) → Option (List (Option ℕ))
written_at id [] words cells = cells
written_at id (s ∷ sites) [] cells = cells
written_at id (s ∷ sites) (word ∷ words) cells =
    written_at id sites words (if bytes_eq s.id id then with_word s word cells else cells)

-- what is staged of a chunk has the size that the chunk has at a site
abbrev pub IsSized : List StagedChunk → Site → Type 0
IsSized chunks s = (cells : List (Option ℕ)) → staged_of chunks s.id ≡ Some cells → length cells ≡ s.size

-- the words of a view may be staged: these are its cells, there is a word for each, and each lies in its chunk, which
-- has at most 2 ^ 24 cells
pub record CanStage (chunks : List StagedChunk) (cells : ViewCells) (count : ℕ) : Type 0 where
  pub sites : List Site
  pub are : AreCells sites cells
  pub counted : count ≡ length sites
  pub sized : AllByRecursion (IsSized chunks) sites
  pub inside : AllByRecursion (λ (s : Site). s.place < s.size) sites
  pub small : AllByRecursion (λ (s : Site). s.size ≤ 2 ^ 24) sites
