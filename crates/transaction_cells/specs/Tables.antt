-- Tables of staged cells, by the ids of chunks.
use Rattle.std.specs.Prelude.{◌≡◌, ℕ, List, [], ◌∷◌, length, fold, replicate, Option, Some, None, unwrap_or, if◌then◌else◌}
use Rattle.std.specs.List.{AllByRecursion}
use Rattle.std.specs.Option.{option_map}
use Rattle.std.specs.Str.{bytes_eq}
use Rattle.cells.specs.declared.run.Run.{Run}
use Rattle.cells.specs.Runs.{pairs_of, IsRunInside}
use Rattle.rebase_writes.specs.Runs.{pairs_written}
use Rattle.rebase_writes.specs.Staged.{staged_at}
use Rattle.transaction_cells.specs.declared.view_cells.Piece.{Piece}

-- the cells of a chunk once each piece has an entry; a new one has no word
abbrev pub prepared : List Piece → List ℕ → Option (List (Option ℕ)) → Option (List (Option ℕ))
prepared [] id cells = cells
prepared (p ∷ pieces) id cells =
    prepared pieces id (if bytes_eq p.id id then Some (unwrap_or cells (replicate p.size None)) else cells)

-- the same words are staged at all places
abbrev pub HasSameWords : Option (List (Option ℕ)) → Option (List (Option ℕ)) → Type 0
HasSameWords old new = (place : ℕ) → staged_at (unwrap_or new []) place ≡ staged_at (unwrap_or old []) place

-- the cells of a chunk once words are written along runs
abbrev pub runs_written : List Run → List ℕ → List (Option ℕ) → List (Option ℕ)
runs_written runs words cells = fold (λ staged run. pairs_written (pairs_of run) words staged) cells runs

-- the same along the runs of those pieces that are of the chunk
abbrev pub pieces_written : List Piece → List ℕ → List ℕ → Option (List (Option ℕ)) → Option (List (Option ℕ))
pieces_written [] id words cells = cells
pieces_written (p ∷ pieces) id words cells =
    pieces_written pieces id words (if bytes_eq p.id id then option_map (runs_written p.runs words) cells else cells)

-- what there is of the chunk has room for the runs of a piece
abbrev pub HasRoom : List Run → ℕ → Option (List (Option ℕ)) → Type 0
HasRoom runs count None = ⊥
HasRoom runs count (Some cells) = AllByRecursion (λ run. IsRunInside run count (length cells)) runs

-- there are cells for each piece of the chunk, with room for its runs
abbrev pub MayWrite : List Piece → List ℕ → ℕ → Option (List (Option ℕ)) → Type 0
MayWrite pieces id count cells = AllByRecursion (λ (p : Piece). p.id ≡ id → HasRoom p.runs count cells) pieces
