-- What is kept of a chunk is what a history says of it. The history began over an empty store.
use Rattle.std.specs.Prelude.{◌≡◌, ◌≤◌, ◌↔◌, ◌⊎◌, ◌+◌, ℕ, List, length, take, fold, Bool, true, Some, Contains}
use Rattle.std.specs.FinMap as finmap
use Rattle.std.specs.List.{list_any}
use Rattle.cells.specs.Places.{cell_count, c_place}
use Rattle.history.specs.Arrays.{Known, known_after, chunk_shape}
use Rattle.history.specs.Chunks.{Chunk, is_chunk, chunk_of, within_chunk}
use Rattle.history.specs.Content.{world_after}
use Rattle.history.specs.Generations.{IsTouched}
use Rattle.history.specs.History.{History}
use Rattle.history.specs.Legal.{is_present}
use Rattle.history.specs.Targets.{Cell}
use Rattle.history.specs.Writes.{Put, put}
use Rattle.chunk_versions.specs.Versions.{Versions, word_as_of}

-- the place of a cell in its chunk, in C order
abbrev pub place_in : Known → Cell → ℕ
place_in k x = c_place (chunk_shape k.info) (within_chunk (chunk_shape k.info) x.index)

-- the cell lies in the chunk, and in the present shape of its array
pub record IsCellOf (history : History) (c : Chunk) (x : Cell) : Type 0 where
  pub chunk : chunk_of history x ≡ c
  pub present : is_present history x ≡ true

-- what is kept of a chunk of this array: which events touched it, and at each moment of the history the word that each of its cells had then
pub record AreVersionsOf (history : History) (k : Known) (c : Chunk) (v : Versions) : Type 0 where
  pub known : known_after history c.array ≡ Some k
  pub size : v.size ≡ cell_count (chunk_shape k.info)
  pub touched : (n : ℕ) → Contains v.touches n ↔ IsTouched history c n
  pub words : (m : ℕ) → m ≤ length history → (x : Cell) → IsCellOf history c x → word_as_of v m (place_in k x) ≡ world_after finmap.empty (take m history) x

-- one of the words is put at a cell of the chunk
abbrev pub is_written : History → Chunk → List Put → Bool
is_written history c puts = list_any (λ p. is_chunk (chunk_of history p.0) c) puts

-- the next event touched the chunk, by words that were put so far
abbrev pub IsNext : History → Chunk → List Put → ℕ → Type 0
IsNext history c puts n = (n ≡ length history + 1) × (is_written history c puts ≡ true)

-- what is kept of a chunk while the words of the next commit are put, these so far: the words before it are as the history says, and those at
-- its own moment are those of the history's arrays with the words so far
pub record ArePartVersionsOf (history : History) (k : Known) (c : Chunk) (puts : List Put) (v : Versions) : Type 0 where
  pub known : known_after history c.array ≡ Some k
  pub size : v.size ≡ cell_count (chunk_shape k.info)
  pub touched : (n : ℕ) → Contains v.touches n ↔ (IsTouched history c n ⊎ IsNext history c puts n)
  pub words : (m : ℕ) → m ≤ length history → (x : Cell) → IsCellOf history c x → word_as_of v m (place_in k x) ≡ world_after finmap.empty (take m history) x
  pub last : (x : Cell) → IsCellOf history c x → word_as_of v (length history + 1) (place_in k x) ≡ fold put (world_after finmap.empty history) puts x
