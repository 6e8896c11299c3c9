-- What is kept of all chunks of a run, and the history that it is kept of. The history began over an empty store.
use Rattle.std.specs.Prelude.{◌≡◌, ℕ, List, length, get_or, count_by, None}
use Rattle.history.specs.Arrays.{Known, known_after}
use Rattle.history.specs.Chunks.{Chunk}
use Rattle.history.specs.History.{History}
use Rattle.history.specs.Legal.{is_opening}
use Rattle.history.specs.Writes.{Put}
use Rattle.chunk_versions.specs.Versions.{Versions, IsVersions}
use Rattle.version_laws.specs.Kept.{AreVersionsOf, ArePartVersionsOf}
use Rattle.version_store.specs.Ids.{id_of, found, IsChunkIn}
use Rattle.version_store.specs.Openings.{no_opening, IsKeptAs}
use Rattle.version_store.specs.declared.store.VersionStore.{VersionStore}
use Rattle.version_store.specs.declared.opening.Opening.{Opening}

-- how the chunks of the array begin that an id names
abbrev pub opening_under : VersionStore → List ℕ → Opening
opening_under s id = get_or s.arrays.items (get_or id 0 0) no_opening

-- the versions of the chunk with this id
abbrev pub IsKeptUnder : VersionStore → List ℕ → Versions → Type 0
IsKeptUnder s id v = IsKeptAs (opening_under s id) (found s.chunks.entries id) v

-- an array is kept for each that a history opened, and no chunk of any other; and of the versions of each chunk that has a cell this holds
pub record Keeps (history : History) (Right : Known → Chunk → Versions → Type 0) (s : VersionStore) : Type 0 where
  pub arrays : length s.arrays.items ≡ count_by is_opening history
  pub unknown : (c : Chunk) → known_after history c.array ≡ None → found s.chunks.entries (id_of c) ≡ None
  pub chunks : (k : Known) (c : Chunk) (id : List ℕ) (v : Versions) → IsChunkIn history k c id → IsVersions v → IsKeptUnder s id v → Right k c v

-- what is kept is that of a history
abbrev pub IsStoreOf : History → VersionStore → Type 0
IsStoreOf history s = Keeps history (λ k c v. AreVersionsOf history k c v) s

-- the same while the words of its next commit are put, these so far
abbrev pub IsPartStoreOf : History → List Put → VersionStore → Type 0
IsPartStoreOf history puts s = Keeps history (λ k c v. ArePartVersionsOf history k c puts v) s
