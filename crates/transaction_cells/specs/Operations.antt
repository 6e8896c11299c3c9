-- What is staged, by the operations of a transaction.
use Rattle.std.specs.Prelude.{◌≡◌, ℕ, List, ◌∷◌, length, take, Option, Some, None, Ok, is_some, map}
use Rattle.std.specs.List.{AllByRecursion, list_any}
use Rattle.std.specs.Str.{bytes_eq}
use Rattle.cells.specs.Places.{cell_count, c_place}
use Rattle.history.specs.declared.event.Op.{Op}
use Rattle.rebase_writes.specs.Staged.{AreWords}
use Rattle.history.specs.Arrays.{Known, known_after, chunk_shape}
use Rattle.history.specs.Chunks.{chunk_index, within_chunk, chunk_of}
use Rattle.history.specs.History.{History}
use Rattle.history.specs.Writes.{Content, Put, puts_of, written}
use Rattle.stack_driver.specs.Targets.{Cell}
use Rattle.stack_driver.specs.Views.{look_of, targets_of}
use Rattle.stack_driver.specs.declared.view.View.{View}
use Rattle.stack_targets.specs.Landings.{Seen, leaves_of}
use Rattle.transaction_cells.specs.Lanes.{HasGrid, IsShownAs}
use Rattle.transaction_cells.specs.Sites.{Site, sites_of, id_of}
use Rattle.transaction_cells.specs.Staging.{StagedChunk, staged_of, word_in}

-- each cell of the view has a target, which is its site's, the leaves' arrays have grids, and their casts lead to the view's dtype
pub record HasSites (v : View) : Type 0 where
  pub targets : targets_of v ≡ map (λ (s : Site). Ok s.target) (sites_of v)
  pub grids : AllByRecursion HasGrid (leaves_of v)
  pub typed : AllByRecursion (IsShownAs (look_of v).dtype) (leaves_of v)

-- a leaf is of an array of the history, and tells the shape of its chunks and its dtype
pub record IsLeafIn (events : History) (seen : Seen) : Type 0 where
  pub array : Known
  pub known : known_after events seen.array.number ≡ Some array
  pub chunk : seen.array.chunk ≡ chunk_shape array.info
  pub dtype : seen.array.dtype ≡ array.info.dtype

-- no word at any cell
abbrev pub no_content : Content
no_content = λ x. None

-- the word that is staged at a cell of an array, also past the array's shape
abbrev pub word_at : List StagedChunk → Known → Cell → Option ℕ
word_at chunks k x =
    let ns = chunk_shape k.info in
    word_in chunks (x.array ∷ chunk_index ns x.index) (c_place ns (within_chunk ns x.index))

-- a word is put into an array of the history
pub record IsInArray (events : History) (p : Put) : Type 0 where
  pub array : Known
  pub known : known_after events p.0.array ≡ Some array

-- at each cell is staged the word that the operations put there last, a chunk is there exactly where they put a word
-- into it, and it has the size of its array's chunks and words of the array's dtype. Words are put into arrays of the history alone
pub record AreStaged (events : History) (ops : List Op) (chunks : List StagedChunk) : Type 0 where
  pub words : (x : Cell) (k : Known) → known_after events x.array ≡ Some k → length x.index ≡ length (chunk_shape k.info)
      → word_at chunks k x ≡ written ops no_content x
  pub there : (id : List ℕ) → is_some (staged_of chunks id)
      ≡ list_any (λ p. bytes_eq (id_of (chunk_of events p.0)) id) (puts_of ops)
  pub sizes : (array : ℕ) (index : List ℕ) (k : Known) (cells : List (Option ℕ))
      → known_after events array ≡ Some k → staged_of chunks (array ∷ index) ≡ Some cells
      → length cells ≡ cell_count (chunk_shape k.info)
  pub typed : (array : ℕ) (index : List ℕ) (k : Known) (cells : List (Option ℕ))
      → known_after events array ≡ Some k → staged_of chunks (array ∷ index) ≡ Some cells
      → AreWords k.info.dtype cells
  pub known : AllByRecursion (IsInArray events) (puts_of ops)

-- each array of a history is there later, opened as it was
abbrev pub KeepsArrays : History → History → Type 0
KeepsArrays events later = (array : ℕ) (k : Known) → known_after events array ≡ Some k
    → (l : Known) × (known_after later array ≡ Some l) × (l.info ≡ k.info)

-- arrays of each beginning of a history are there in the end
abbrev pub IsGrowing : History → Type 0
IsGrowing events = (n : ℕ) → KeepsArrays (take n events) events
