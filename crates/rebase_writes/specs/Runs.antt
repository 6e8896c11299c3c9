-- Pairs of a run carried over: from a view to a chunk's staged cells, and from a chunk or its staged cells to a view.
use Rattle.std.specs.Prelude.{ℕ, pos, List, Option, Some, None, slice_index, slice_set}
use Rattle.std.specs.List.{fold}
use Rattle.cells.specs.Runs.{Pair}
use Rattle.cells.specs.declared.run.Run.{Run}
use Rattle.rebase_writes.specs.Staged.{staged_at}

-- staged cells once the view's word of each pair in turn is staged at the pair's place in the chunk
abbrev pub pairs_written : List Pair → List ℕ → List (Option ℕ) → List (Option ℕ)
pairs_written pairs words cells = fold (λ staged pair. slice_set staged pair.chunk (Some (slice_index words pair.view))) cells pairs

-- a view's words once the chunk's word of each pair in turn is put at the pair's place in the view
abbrev pub pairs_read : List Pair → List ℕ → List ℕ → List ℕ
pairs_read pairs words out = fold (λ shown pair. slice_set shown pair.view (slice_index words pair.chunk)) out pairs

-- a view's words with a word at a place; as they are where there is none
abbrev pub shown_at : List ℕ → ℕ → Option ℕ → List ℕ
shown_at shown place None = shown
shown_at shown place (Some word) = slice_set shown place word

-- a view's words once the word that is staged at each pair's place in the chunk is put at the pair's place in the view
abbrev pub pairs_shown : List Pair → List (Option ℕ) → List ℕ → List ℕ
pairs_shown pairs cells out = fold (λ shown pair. shown_at shown pair.view (staged_at cells pair.chunk)) out pairs

-- so many places of a view and a chunk alike, one after another
abbrev pub row_at : ℕ → ℕ → Run
row_at place count = record { view = place; view_step = 1; chunk = place; chunk_step = pos 1; len = count }
