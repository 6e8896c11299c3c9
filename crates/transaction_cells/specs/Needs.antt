-- Which of the chunks that a view touches a read of it needs.
use Rattle.std.specs.Prelude.{ℕ, List, [], Bool, Option, is_none, unwrap_or}
use Rattle.std.specs.List.{list_any, flat_map}
use Rattle.cells.specs.declared.run.Run.{Run}
use Rattle.cells.specs.Runs.{Pair, pairs_of, IsRunInside}
use Rattle.rebase_writes.specs.Staged.{staged_at}
use Rattle.transaction_cells.specs.Staging.{StagedChunk, staged_of}
use Rattle.transaction_cells.specs.declared.view_cells.Piece.{Piece}

-- the run's places in the chunk are below its size
abbrev pub IsRunIn : ℕ → Run → Type 0
IsRunIn size run = (view : ℕ) × IsRunInside run view size

-- no word is staged at the pair's place in the chunk
abbrev pub is_bare : List (Option ℕ) → Pair → Bool
is_bare cells pair = is_none (staged_at cells pair.chunk)

-- at one of the pairs of runs no word is staged
abbrev pub are_bare : List (Option ℕ) → List Run → Bool
are_bare cells runs = list_any (is_bare cells) (flat_map pairs_of runs)

-- at a cell of the piece no word is staged, so that a read of it needs the chunk
abbrev pub needs : List StagedChunk → Piece → Bool
needs chunks p = are_bare (unwrap_or (staged_of chunks p.id) []) p.runs
