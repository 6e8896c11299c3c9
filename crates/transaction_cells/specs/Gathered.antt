-- The words that a view shows: what is staged, and what chunks have where nothing is staged.
use Rattle.std.specs.Prelude.{◌≡◌, ℕ, List, [], ◌∷◌, length, fold, All, Option, Some, None, slice_index, unwrap_or, if◌then◌else◌}
use Rattle.std.specs.List.{AllByRecursion}
use Rattle.std.specs.Str.{bytes_eq}
use Rattle.cells.specs.declared.run.Run.{Run}
use Rattle.cells.specs.Numbers.{IsWord}
use Rattle.cells.specs.Places.{c_place}
use Rattle.cells.specs.Runs.{pairs_of, IsRunInside}
use Rattle.chunk_cache.specs.Snapshot.{SnapshotCells}
use Rattle.history.specs.Arrays.{Known, known_after, chunk_shape}
use Rattle.history.specs.Chunks.{chunk_of, within_chunk}
use Rattle.history.specs.History.{History}
use Rattle.history.specs.Writes.{Content}
use Rattle.rebase_writes.specs.Runs.{pairs_read, pairs_shown}
use Rattle.stack_driver.specs.Targets.{Cell, outwards}
use Rattle.transaction_cells.specs.declared.view_cells.Piece.{Piece}
use Rattle.transaction_cells.specs.Casting.{casts_at}
use Rattle.transaction_cells.specs.Lanes.{LaneSeen}
use Rattle.transaction_cells.specs.Sites.{Site, id_of}
use Rattle.transaction_cells.specs.Staging.{StagedChunk, word_in}

-- for each piece its chunk, which has as many cells as the piece says, or none
abbrev pub IsChunkOf : Piece → Option SnapshotCells → Type 0
IsChunkOf p None = Unit {0}
IsChunkOf p (Some chunk) = length chunk.cells.words ≡ p.size

abbrev pub AreChunksOf : List Piece → List (Option SnapshotCells) → Type 0
AreChunksOf [] chunks = Unit {0}
AreChunksOf (p ∷ pieces) [] = ⊥
AreChunksOf (p ∷ pieces) (chunk ∷ chunks) = IsChunkOf p chunk × AreChunksOf pieces chunks

-- the words of a piece's chunk are of the dtype of its array
abbrev pub IsTypedChunk : History → Piece → Option SnapshotCells → Type 0
IsTypedChunk events p None = Unit {0}
IsTypedChunk events p (Some chunk) = (array : ℕ) (index : List ℕ) (k : Known) → p.id ≡ array ∷ index → known_after events array ≡ Some k → All (IsWord k.info.dtype) chunk.cells.words

abbrev pub AreTypedChunks : History → List Piece → List (Option SnapshotCells) → Type 0
AreTypedChunks events [] chunks = Unit {0}
AreTypedChunks events (p ∷ pieces) [] = Unit {0}
AreTypedChunks events (p ∷ pieces) (chunk ∷ chunks) = IsTypedChunk events p chunk × AreTypedChunks events pieces chunks

-- the word that a chunk has at a place
abbrev pub word_of : Option SnapshotCells → ℕ → Option ℕ
word_of None place = None
word_of (Some chunk) place = Some (slice_index chunk.cells.words place)

-- the word at a place of a chunk, by its id, where its piece has a chunk
abbrev pub chunk_word : List Piece → List (Option SnapshotCells) → List ℕ → ℕ → Option ℕ
chunk_word [] chunks id place = None
chunk_word (p ∷ pieces) [] id place = None
chunk_word (p ∷ pieces) (chunk ∷ chunks) id place = if bytes_eq id p.id then word_of chunk place else chunk_word pieces chunks id place

-- the word that is kept at a site: the staged one, else its chunk's
abbrev pub kept_word : List StagedChunk → List Piece → List (Option SnapshotCells) → Site → ℕ
kept_word staged pieces chunks s = unwrap_or (word_in staged s.id s.place) (unwrap_or (chunk_word pieces chunks s.id s.place) 0)

-- the same as it is shown
abbrev pub shown_word : List StagedChunk → List Piece → List (Option SnapshotCells) → Site → ℕ
shown_word staged pieces chunks s = outwards s.target.casts (kept_word staged pieces chunks s)

-- the place of a cell in its chunk
abbrev pub place_in : Option Known → Cell → ℕ
place_in None x = 0
place_in (Some k) x = c_place (chunk_shape k.info) (within_chunk (chunk_shape k.info) x.index)

-- the chunk of a cell's piece has the word that the cell has in a content
pub record IsTold (events : History) (content : Content) (pieces : List Piece) (chunks : List (Option SnapshotCells)) (x : Cell) : Type 0 where
  pub word : ℕ
  pub in_chunk : chunk_word pieces chunks (id_of (chunk_of events x)) (place_in (known_after events x.array) x) ≡ Some word
  pub in_content : content x ≡ Some word

-- each word taken outwards through the casts of its cell's leaf
abbrev pub taken_out : List LaneSeen → List ℕ → List ℕ → List ℕ
taken_out lanes [] words = []
taken_out lanes (leaf ∷ leaves) [] = []
taken_out lanes (leaf ∷ leaves) (word ∷ words) = outwards (casts_at lanes leaf) word ∷ taken_out lanes leaves words

-- a view's words once those of a chunk are put along runs
abbrev pub runs_read : List Run → Option SnapshotCells → List ℕ → List ℕ
runs_read runs None out = out
runs_read runs (Some chunk) out = fold (λ shown run. pairs_read (pairs_of run) chunk.cells.words shown) out runs

-- and once the staged ones are
abbrev pub runs_shown : List Run → Option (List (Option ℕ)) → List ℕ → List ℕ
runs_shown runs None out = out
runs_shown runs (Some cells) out = fold (λ shown run. pairs_shown (pairs_of run) cells shown) out runs

-- the runs lie in the chunk, where there is one
abbrev pub FitsChunk : List Run → ℕ → Option SnapshotCells → Type 0
FitsChunk runs count None = Unit {0}
FitsChunk runs count (Some chunk) = AllByRecursion (λ run. IsRunInside run count (length chunk.cells.words)) runs

abbrev pub FitsStaged : List Run → ℕ → Option (List (Option ℕ)) → Type 0
FitsStaged runs count None = Unit {0}
FitsStaged runs count (Some cells) = AllByRecursion (λ run. IsRunInside run count (length cells)) runs

-- a view's words once those of all pieces are put, the staged ones over the chunks'
abbrev pub pieces_gathered : (List ℕ → Option (List (Option ℕ))) → List Piece → List (Option SnapshotCells) → List ℕ → List ℕ
pieces_gathered staged [] chunks out = out
pieces_gathered staged (p ∷ pieces) [] out = out
pieces_gathered staged (p ∷ pieces) (chunk ∷ chunks) out =
    pieces_gathered staged pieces chunks (runs_shown p.runs (staged p.id) (runs_read p.runs chunk out))

-- the runs of the pieces lie in their chunks
abbrev pub FitPieces : (List ℕ → Option (List (Option ℕ))) → ℕ → List Piece → List (Option SnapshotCells) → Type 0
FitPieces staged count [] chunks = Unit {0}
FitPieces staged count (p ∷ pieces) [] = ⊥
FitPieces staged count (p ∷ pieces) (chunk ∷ chunks) =
    FitsChunk p.runs count chunk × FitsStaged p.runs count (staged p.id) × FitPieces staged count pieces chunks
