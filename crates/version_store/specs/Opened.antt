-- An array that is opened.
use Rattle.std.specs.Prelude.{◌≡◌, ◌<◌, ℕ, ◌+◌, List, [], ◌∷◌, ◌++◌, length, nat_le, slice_index, Some, None, if◌then◌else◌}
use Rattle.std.specs.FinMap as finmap
use Rattle.std.specs.Str.{bytes_eq}
use Rattle.history.specs.declared.array.ArrayInfo.{ArrayInfo}
use Rattle.history.specs.declared.event.Event.{Event}
use Rattle.history.specs.declared.event.Kind.TheVariants.{Opened}
use Rattle.history.specs.History.{History}
use Rattle.history.specs.Legal.{IsLegal}
use Rattle.chunk_versions.specs.Versions.{Versions, word_as_of}
use Rattle.version_store.specs.Ids.{Id, found}
use Rattle.version_store.specs.Stores.{IsStoreOf}
use Rattle.version_store.specs.declared.store.VersionStore.{VersionStore}

-- behind an event of this number that may follow and opens the array, what is kept is that of the history with it
abbrev pub IsOpened : ℕ → ArrayInfo → VersionStore → VersionStore → Type 0
IsOpened number info old new =
    (history : History) (event : Event) → IsLegal finmap.empty (history ++ event ∷ []) → event.kind ≡ Opened info → number ≡ length history + 1 → IsStoreOf history old → IsStoreOf (history ++ event ∷ []) new

-- a table behind the one chunk of a local array that was entered with its words
pub record HasEntered (id : List ℕ) (number : ℕ) (start : List ℕ) (old new : List (Id × Versions)) : Type 0 where
  pub versions : Versions
  pub size : versions.size ≡ length start
  pub touches : versions.touches ≡ number ∷ []
  pub words : (m place : ℕ) → place < length start → word_as_of versions m place ≡ (if nat_le number m then Some (slice_index start place) else None)
  pub table : (other : List ℕ) → found new other ≡ (if bytes_eq id other then Some versions else found old other)
