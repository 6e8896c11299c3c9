-- Strided runs of pairs: a place in a view, and a place in a chunk.
use Rattle.std.specs.Prelude.{ℕ, ◌+◌, ◌*◌, ◌<◌, ℤ, pos, ◌+ℤ◌, ◌*ℤ◌, ◌≤ℤ◌, ◌<ℤ◌, unsigned_abs, List, map, slice_index, slice_set}
use Rattle.std.specs.List.{fold, range_with_len}
use Rattle.cells.specs.declared.run.Run.{Run}

-- a place in a view, or in a list of index vectors, beside the place of that cell in its chunk
pub record Pair : Type 0 where
  pub view : ℕ
  pub chunk : ℕ

-- the view's place of pair k
abbrev pub view_place : Run → ℕ → ℕ
view_place run k = run.view + run.view_step * k

-- the chunk's place of pair k, as the number that the run tells
abbrev pub chunk_number : Run → ℕ → ℤ
chunk_number run k = pos run.chunk +ℤ run.chunk_step *ℤ pos k

-- the same as a place, which is from 0 on
abbrev pub chunk_place : Run → ℕ → ℕ
chunk_place run k = unsigned_abs (chunk_number run k)

-- pair k of a run
abbrev pub pair_at : Run → ℕ → Pair
pair_at run k = record { view = view_place run k; chunk = chunk_place run k }

-- the pairs of a run, in order
abbrev pub pairs_of : Run → List Pair
pairs_of run = map (pair_at run) (range_with_len 0 run.len)

-- each pair lies in a view of so many cells and a chunk of so many
pub record IsRunInside (run : Run) (view chunk : ℕ) : Type 0 where
  pub in_view : (k : ℕ) → k < run.len → view_place run k < view
  pub from_first : (k : ℕ) → k < run.len → pos 0 ≤ℤ chunk_number run k
  pub to_last : (k : ℕ) → k < run.len → chunk_number run k <ℤ pos chunk

-- the first pairs of a run
abbrev pub first_pairs : Run → ℕ → Run
first_pairs run k = record run { len = k }

-- a chunk's words once the view's word of each pair in turn is put at the pair's place in the chunk
abbrev pub pairs_put : List Pair → List ℕ → List ℕ → List ℕ
pairs_put pairs words cells = fold (λ laid pair. slice_set laid pair.chunk (slice_index words pair.view)) cells pairs

-- a view's words once the chunk's word of each pair in turn is put at the pair's place in the view
abbrev pub pairs_taken : List Pair → List ℕ → List ℕ → List ℕ
pairs_taken pairs words out = fold (λ shown pair. slice_set shown pair.view (slice_index words pair.chunk)) out pairs
