-- When a read, a commit or a resize is refused after its transaction's own faults.
use Rattle.std.specs.Prelude.{◌≡◌, ◌<◌, max, ℕ, List, ◌∷◌, length, map, filter, filter_map, take, fold, Bool, false, not, ◌==◌, Option, Some, None, IsTrue, Contains, if◌then◌else◌}
use Rattle.chunk_forms.specs.Words.{is_inside}
use Rattle.chunk_forms.specs.declared.form.Damage.{Damage}
use Rattle.stack_driver.specs.declared.view.View.{View}
use Rattle.stack_driver.specs.Targets.{Cell}
use Rattle.history.specs.History.{History}
use Rattle.history.specs.Arrays.{Known, known_after, chunk_shape}
use Rattle.history.specs.Chunks.{Chunk, chunk_of, key_in, metadata_key}
use Rattle.history.specs.Resizes.{cut_chunks, IsCutCell}
use Rattle.history.specs.Writes.{puts_of}
use Rattle.history.specs.Store.{resized_after}
use Rattle.history.specs.Reads.{Marks, mark_of, is_put, unwritten}
use Rattle.history.specs.Legal.{is_present}
use Rattle.history.specs.Damaged.{IsDamaged}
use Rattle.history.specs.Commit.{Key, Fixed, Transaction, is_before, stored_keys, are_together}

-- a chunk that a read needs: one with a cell of the view that no earlier Write named
abbrev pub IsNeeded : History → Transaction → View → Chunk → Type 0
IsNeeded events t view c = Contains (map (chunk_of events) (unwritten t.ops view)) c

-- the mark of a cell's chunk
abbrev pub mark_at : History → Marks → Cell → ℕ
mark_at events marks x = mark_of marks (chunk_of events x)

-- the cell was outside its array's shape when its chunk was read
abbrev pub was_outside : History → Marks → Cell → Bool
was_outside events marks x = not (is_present (take (mark_at events marks x) events) x)

-- the cells of a view that count for a read: no earlier Write named them, and they were outside when their chunks were read
abbrev pub cells_outside : History → Marks → Transaction → View → List Cell
cells_outside events marks t view = filter (was_outside events marks) (unwritten t.ops view)

-- the metadata key of an array of the run; a local one has none
abbrev pub key_of_array : Option Known → Option Key
key_of_array None = None
key_of_array (Some k) = metadata_key k

-- the metadata key of a cell's array
abbrev pub metadata_key_at : History → Cell → Option Key
metadata_key_at events x = key_of_array (known_after events x.array)

-- the greatest mark of a chunk of the array with a cell outside
abbrev pub last_mark : History → Marks → ℕ → List Cell → ℕ
last_mark events marks array cells = fold (λ m (x : Cell). if x.array == array then max m (mark_at events marks x) else m) 0 cells

-- a read names a cell that was outside: the least metadata key of such an array, and its last resize up to the greatest mark
pub record IsShrunkRead (events : History) (marks : Marks) (t : Transaction) (view : View) (key : Key) (now : ℕ) : Type 0 where
  pub cell : Cell
  pub counts : Contains (cells_outside events marks t view) cell
  pub named : metadata_key_at events cell ≡ Some key
  pub number : now ≡ resized_after (take (last_mark events marks cell.array (cells_outside events marks t view)) events) cell.array
  pub least : (x : Cell) → Contains (cells_outside events marks t view) x → (k : Key) → metadata_key_at events x ≡ Some k → is_before k key ≡ false

-- a cell that a commit writes lies outside its array's shape
pub record IsWrittenOutside (events : History) (t : Transaction) (x : Cell) (key : Key) : Type 0 where
  pub written : IsTrue (is_put (puts_of t.ops) x)
  pub outside : is_present events x ≡ false
  pub named : metadata_key_at events x ≡ Some key

-- the least metadata key of an array of which a written cell lies outside, and the number of its last resize
pub record IsShrunkCommit (events : History) (t : Transaction) (key : Key) (now : ℕ) : Type 0 where
  pub cell : Cell
  pub is_outside : IsWrittenOutside events t cell key
  pub number : now ≡ resized_after events cell.array
  pub least : (x : Cell) (k : Key) → IsWrittenOutside events t x k → is_before k key ≡ false

-- all changes were asked to be made together, and the store can't; so many keys change that aren't local
pub record IsNotAtomic (fixed : Fixed) (events : History) (t : Transaction) (keys : ℕ) : Type 0 where
  pub asked : IsTrue t.mode.atomic
  pub apart : are_together fixed.prefixes (stored_keys events t.ops) ≡ false
  pub count : keys ≡ length (stored_keys events t.ops)

-- the Writes name all cells of the chunk inside the present shape
abbrev pub IsCovered : History → Transaction → Chunk → Type 0
IsCovered events t c = (x : Cell) → chunk_of events x ≡ c → IsTrue (is_present events x) → IsTrue (is_put (puts_of t.ops) x)

-- a commit changes the chunk
abbrev pub IsWritten : History → Transaction → Chunk → Type 0
IsWritten events t c = Contains (map (λ p. chunk_of events p.0) (puts_of t.ops)) c

-- a read needs a damaged chunk
pub record IsDamagedRead (fixed : Fixed) (events : History) (t : Transaction) (view : View) (key : Key) (cause : Damage) : Type 0 where
  pub chunk : Chunk
  pub needed : IsNeeded events t view chunk
  pub damaged : IsDamaged fixed.start events chunk key cause

-- a commit lays a part over a damaged chunk
pub record IsSpoiled (fixed : Fixed) (events : History) (t : Transaction) (c : Chunk) (key : Key) (cause : Damage) : Type 0 where
  pub changed : IsWritten events t c
  pub partly : ¬ IsCovered events t c
  pub damaged : IsDamaged fixed.start events c key cause

-- the least key of such a chunk
pub record IsDamagedCommit (fixed : Fixed) (events : History) (t : Transaction) (key : Key) (cause : Damage) : Type 0 where
  pub chunk : Chunk
  pub spoiled : IsSpoiled fixed events t chunk key cause
  pub least : (c : Chunk) (k : Key) (why : Damage) → IsSpoiled fixed events t c k why → is_before k key ≡ false

-- more than 65,536 chunks have a cell that the new shape cuts
abbrev pub HasTooManyCut : Option Known → List ℕ → Type 0
HasTooManyCut None shape = ⊥
HasTooManyCut (Some k) shape = 65536 < length (cut_chunks k shape)

-- the keys of the chunks with a cell that a new shape cuts
abbrev pub resized_keys : Known → ℕ → List ℕ → List Key
resized_keys k array shape = filter_map (λ index. key_in (Some k) (record { array = array; index = index })) (cut_chunks k shape)

-- all keys that a resize changes: that of the metadata and those of the chunks
abbrev pub all_resized_keys : Option Key → List Key → List Key
all_resized_keys None keys = keys
all_resized_keys (Some key) keys = key ∷ keys

-- a resize cuts chunks that can't be changed together with the metadata; `keys` counts them all
pub record IsNotAtomicResize (fixed : Fixed) (events : History) (array : ℕ) (shape : List ℕ) (keys : ℕ) : Type 0 where
  pub known : Known
  pub is_known : known_after events array ≡ Some known
  pub apart : are_together fixed.prefixes (all_resized_keys (metadata_key known) (resized_keys known array shape)) ≡ false
  pub count : keys ≡ length (all_resized_keys (metadata_key known) (resized_keys known array shape))

-- a new shape cuts a part of a damaged chunk: one cell of it is cut and one stays
pub record IsDamagedResize (fixed : Fixed) (events : History) (array : ℕ) (shape : List ℕ) (key : Key) (cause : Damage) : Type 0 where
  pub known : Known
  pub is_known : known_after events array ≡ Some known
  pub index : List ℕ
  pub cut : List ℕ
  pub is_cut : IsCutCell (chunk_shape known.info) known.shape shape index cut
  pub left : List ℕ
  pub in_chunk : chunk_of events (record { array = array; index = left }) ≡ record { array = array; index = index }
  pub stays : IsTrue (is_inside known.shape left) × IsTrue (is_inside shape left)
  pub damaged : IsDamaged fixed.start events (record { array = array; index = index }) key cause
