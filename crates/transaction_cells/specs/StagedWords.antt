-- The words that are staged at the cells of a piece.
use Rattle.std.specs.Prelude.{ℕ, List, [], Option, map, unwrap_or}
use Rattle.std.specs.List.{flat_map}
use Rattle.cells.specs.Runs.{Pair, pairs_of}
use Rattle.rebase_writes.specs.Staged.{staged_at}
use Rattle.transaction_cells.specs.Staging.{StagedChunk, staged_of}
use Rattle.transaction_cells.specs.declared.view_cells.Piece.{Piece}

-- the word that is staged at a pair's place in the chunk
abbrev pub word_of_pair : List (Option ℕ) → Pair → Option ℕ
word_of_pair cells pair = staged_at cells pair.chunk

-- those at the cells of a piece, in order
abbrev pub staged_words : List StagedChunk → Piece → List (Option ℕ)
staged_words chunks p = map (word_of_pair (unwrap_or (staged_of chunks p.id) [])) (flat_map pairs_of p.runs)
