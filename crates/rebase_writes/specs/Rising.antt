-- Runs that were staged one behind another in a chunk.
use Rattle.std.specs.Prelude.{◌≡◌, ◌≢◌, ◌≤◌, ◌<◌, ◌+◌, ◌-◌, ◌*◌, ◌/◌, ◌^◌, ℕ, pos, ◌≤ℤ◌, Bool, true, false, if◌then◌else◌, List, All, Option, None, length, replicate, slice_index, slice_index_or}
use Rattle.std.specs.List.{fold}
use Rattle.cells.specs.declared.run.Run.{Run}
use Rattle.cells.specs.Runs.{view_place, chunk_place, IsRunInside, pairs_of}
use Rattle.rebase_writes.specs.Runs.{pairs_written}
use Rattle.rebase_writes.specs.Marks.{is_marked, marks_of}
use Rattle.rebase_writes.specs.Staged.{staged_cells}

-- the run has pairs, goes forward through the chunk, and its words stand one after another or are one
pub record IsForward (run : Run) : Type 0 where
  pub some : 1 ≤ run.len
  pub words : run.view_step ≤ 1
  pub places : pos 1 ≤ℤ run.chunk_step

-- the place of the last pair
abbrev pub last_place : Run → ℕ
last_place run = chunk_place run (run.len - 1)

-- runs over so many words in a chunk of so many cells, each of which begins behind the end of those before, and no earlier than its words
pub record AreRising (words cells : ℕ) (runs : List Run) : Type 0 where
  pub forward : All IsForward runs
  pub ahead : All (λ (run : Run). run.view ≤ run.chunk) runs
  pub inside : All (λ run. IsRunInside run words cells) runs
  pub apart : (i j : ℕ) (d : Run) → i < j → j < length runs → last_place (slice_index_or runs i d) < (slice_index_or runs j d).chunk

-- cells once the words of each run in turn are staged
abbrev pub runs_staged : List Run → List ℕ → List (Option ℕ) → List (Option ℕ)
runs_staged runs words cells = fold (λ staged run. pairs_written (pairs_of run) words staged) cells runs

-- the cells that are staged: by runs over a chunk with nothing staged, or by a mark and a word for each cell
abbrev pub cells_kept : Bool → ℕ → List Run → List ℕ → List ℕ → List (Option ℕ)
cells_kept by_runs count runs words marks = if by_runs then runs_staged runs words (replicate count None) else staged_cells (marks_of count marks) words

-- runs that rise, over no more words than there are cells, with room for a word and a mark for each cell; or as many words and marks
pub record AreKept (by_runs : Bool) (count : ℕ) (runs : List Run) (words marks : List ℕ) (words_cap marks_cap : ℕ) : Type 0 where
  pub rising : by_runs ≡ true → AreRising (length words) count runs
  pub small : by_runs ≡ true → count ≤ 2 ^ 24
  pub few : by_runs ≡ true → length words ≤ count
  pub words_room : by_runs ≡ true → count ≤ words_cap
  pub marks_room : by_runs ≡ true → count / 64 + 1 ≤ marks_cap
  pub full : by_runs ≡ false → length words ≡ count
  pub marked : by_runs ≡ false → count ≤ 64 * length marks

-- a run begins behind the others, its words one after another from a place on, and has the places of another, pair by pair
pub record IsBehind (runs : List Run) (view : ℕ) (run next : Run) : Type 0 where
  pub forward : IsForward next
  pub begins : next.view ≡ view
  pub ahead : next.view ≤ next.chunk
  pub words : next.view_step ≡ 1
  pub as_many : next.len ≡ run.len
  pub places : (k : ℕ) → k < run.len → chunk_place next k ≡ chunk_place run k
  pub behind : (i : ℕ) (d : Run) → i < length runs → last_place (slice_index_or runs i d) < next.chunk

-- the pairs of a run from one on are marked and have their words at their places, which were the run's words before; all else is as it was
pub record IsCopied (run : Run) (from : ℕ) (old_marks old_words marks words : List ℕ) : Type 0 where
  pub pairs : (k : ℕ) → from ≤ k → k < run.len
      → (is_marked marks (chunk_place run k) ≡ true) × (slice_index words (chunk_place run k) ≡ slice_index old_words (view_place run k))
  pub others : (place : ℕ) → ((k : ℕ) → from ≤ k → k < run.len → chunk_place run k ≢ place)
      → (is_marked marks place ≡ is_marked old_marks place) × (slice_index words place ≡ slice_index old_words place)
