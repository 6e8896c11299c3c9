-- What a transaction prepared for its commit.
use Rattle.std.specs.Prelude.{◌≡◌, ◌⊎◌, ℕ, List, [], ◌∷◌, length, map, take, true, Option, Some, None, IsTrue, Contains}
use Rattle.std.specs.List.{AllByRecursion}
use Rattle.cells.specs.Places.{IsInside, c_place, cell_count}
use Rattle.cells.specs.Shapes.{is_inside}
use Rattle.stack_driver.specs.Targets.{Cell}
use Rattle.rebase_writes.specs.Staged.{AreWords, staged_at}
use Rattle.history.specs.declared.event.Op.{Op}
use Rattle.history.specs.History.{History}
use Rattle.history.specs.Arrays.{Known, known_after, chunk_shape, is_local}
use Rattle.history.specs.Chunks.{Chunk, IsIndexOf, cell_at, chunk_key, chunk_of}
use Rattle.history.specs.Commit.{Key, Transaction, kept_ops, read_generation}
use Rattle.history.specs.Generations.{HasKey}
use Rattle.history.specs.Reads.{footprint_of, has_mark, mark_of}
use Rattle.history.specs.Touch.{writes_chunk}
use Rattle.history.specs.Writes.{Put, puts_of, written}
use Rattle.chunk_plans.specs.declared.write.ChunkWrite.{ChunkWrite}
use Rattle.chunk_plans.specs.Rising.{AreRising}
use Rattle.chunk_plans.specs.Writes.{chunk_of_write}
use Rattle.chunk_plans.specs.declared.mark.Mark.{Mark}
use Rattle.commits.specs.declared.prepared.Prepared.{Prepared}

-- the word that operations put at a cell last, if they put one
abbrev pub word_put : List Op → Cell → Option ℕ
word_put ops = written ops (λ x. None)

-- the words that operations put last in a chunk are staged for it
pub record IsStagedFor (events : History) (ops : List Op) (w : ChunkWrite) (k : Known) : Type 0 where
  pub known : known_after events w.array ≡ Some k
  pub valid : IsIndexOf k.info w.chunk.now
  pub named : chunk_key k w.chunk.now ≡ w.key
  pub written : writes_chunk events ops (chunk_of_write w) ≡ true
  pub size : length w.staged.now ≡ cell_count (chunk_shape k.info)
  pub words : AreWords k.info.dtype w.staged.now
  pub cells : (index : List ℕ) → IsInside (chunk_shape k.info) index
      → staged_at w.staged.now (c_place (chunk_shape k.info) index) ≡ word_put ops (cell_at k (chunk_of_write w) index)

abbrev pub IsStagedWrite : History → List Op → ChunkWrite → Type 0
IsStagedWrite events ops w = (k : Known) × IsStagedFor events ops w k

abbrev pub write_keys : List ChunkWrite → List Key
write_keys writes = map (λ (w : ChunkWrite). w.key) writes

-- one of the writes is of the chunk
abbrev pub HasWrite : Chunk → List ChunkWrite → Type 0
HasWrite c [] = ⊥
HasWrite c (w ∷ writes) = (chunk_of_write w ≡ c) ⊎ HasWrite c writes

-- a cell that is put lies in an array of the history, at an index vector of its rank, in its shape where the run holds the array, and in a
-- chunk of one of the writes
pub record IsPutAmong (events : History) (writes : List ChunkWrite) (x : Cell) : Type 0 where
  pub array : Known
  pub known : known_after events x.array ≡ Some array
  pub rank : length x.index ≡ length (chunk_shape array.info)
  pub held : is_local array.info.home ≡ true → is_inside array.shape x.index ≡ true
  pub write : HasWrite (chunk_of events x) writes

-- there is one write for each chunk that the operations write, and no other, in the order of the keys
pub record AreWrites (events : History) (ops : List Op) (writes : List ChunkWrite) : Type 0 where
  pub each : AllByRecursion (IsStagedWrite events ops) writes
  pub all : AllByRecursion (λ (p : Put). IsPutAmong events writes p.0) (puts_of ops)
  pub sorted : AreRising (write_keys writes)

-- a mark is of a chunk that the transaction read before it wrote the cell, by the generation at which it read the chunk
pub record IsMarkOf (events : History) (t : Transaction) (m : Mark) : Type 0 where
  pub chunk : Chunk
  pub has : HasKey events chunk m.key
  pub was_read : Contains (footprint_of events t.ops) chunk
  pub generation : m.generation ≡ read_generation events t.marks chunk

-- one of the keys is that of the chunk
abbrev pub HasMark : History → Chunk → List Mark → Type 0
HasMark events c [] = ⊥
HasMark events c (m ∷ marks) = HasKey events c m.key ⊎ HasMark events c marks

-- there is one mark for each chunk of the footprint, and no other, in the order of the keys
pub record AreMarks (events : History) (t : Transaction) (marks : List Mark) : Type 0 where
  pub each : AllByRecursion (IsMarkOf events t) marks
  pub all : (c : Chunk) → Contains (footprint_of events t.ops) c → HasMark events c marks
  pub sorted : AreRising (map (λ (m : Mark). m.key) marks)

-- a chunk was read at its mark: it has one, and its array was known then
pub record WasReadAt (events : History) (t : Transaction) (c : Chunk) : Type 0 where
  pub marked : IsTrue (has_mark t.marks c)
  pub array : Known
  pub known : known_after (take (mark_of t.marks c) events) c.array ≡ Some array

-- what was prepared is the transaction's
pub record IsPreparedFor (events : History) (t : Transaction) (p : Prepared) : Type 0 where
  pub line : p.line ≡ t.line
  pub mode : p.mode ≡ t.mode
  pub ops : p.ops ≡ t.ops
  -- Reads are among its operations under repeatable read alone
  pub reads : kept_ops t ≡ t.ops
  pub marks : AreMarks events t p.footprint.now
