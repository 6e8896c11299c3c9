-- Writes of which a cell lies outside its array's shape now.
use Rattle.std.specs.Prelude.{◌≡◌, ◌⊎◌, ℕ, List, [], ◌∷◌, false, Option, Some, None}
use Rattle.history.specs.Arrays.{Known, known_after, chunk_shape, is_local}
use Rattle.history.specs.Chunks.{metadata_key}
use Rattle.history.specs.Store.{resized_after}
use Rattle.history.specs.History.{History}
use Rattle.chunk_plans.specs.Laid.{IsStagedWithin}
use Rattle.chunk_plans.specs.declared.write.ChunkWrite.{ChunkWrite}
use Rattle.commits.specs.declared.outside.Outside.{Outside}

-- each word that is staged for a chunk of a stored array is of a cell in the array's shape
abbrev pub IsWithin : Known → ChunkWrite → Type 0
IsWithin k w = is_local k.info.home ≡ false → IsStagedWithin k.shape (chunk_shape k.info) w.chunk.now w.staged.now

-- one isn't; this is the key of the array's metadata, and the number of the event that gave the array its shape
pub record IsOutside (events : History) (k : Known) (w : ChunkWrite) (o : Outside) : Type 0 where
  pub stored : is_local k.info.home ≡ false
  pub beyond : ¬ (IsStagedWithin k.shape (chunk_shape k.info) w.chunk.now w.staged.now)
  pub named : metadata_key k ≡ Some o.key
  pub number : o.now ≡ resized_after events w.array

abbrev pub TellsOutside : History → Known → ChunkWrite → Option Outside → Type 0
TellsOutside events k w None = IsWithin k w
TellsOutside events k w (Some o) = IsOutside events k w o

-- of writes, the first with a word outside, if there is one
abbrev pub IsFirstOutside : History → List ChunkWrite → Option Outside → Type 0
IsFirstOutside events [] None = Unit {0}
IsFirstOutside events [] (Some o) = ⊥
IsFirstOutside events (w ∷ writes) None = ((k : Known) → known_after events w.array ≡ Some k → IsWithin k w) × IsFirstOutside events writes None
IsFirstOutside events (w ∷ writes) (Some o) =
    ((k : Known) → known_after events w.array ≡ Some k → IsOutside events k w o)
    ⊎ (((k : Known) → known_after events w.array ≡ Some k → IsWithin k w) × IsFirstOutside events writes (Some o))

-- what is told of a stored array
abbrev pub IsToldOf : History → ℕ → Known → Option Outside → Type 0
IsToldOf events a k None = ⊥
IsToldOf events a k (Some o) = (metadata_key k ≡ Some o.key) × (o.now ≡ resized_after events a)
