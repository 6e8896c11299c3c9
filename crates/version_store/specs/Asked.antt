-- What a read asks of what is kept.
use Rattle.std.specs.Prelude.{◌≡◌, ◌≤◌, ◌↔◌, ℕ, List, length, Some, Bool, IsTrue, option_map, fold}
use Rattle.std.specs.FinMap as finmap
use Rattle.std.specs.List.{AllByRecursion}
use Rattle.cast_driver.specs.Chain.{word_out}
use Rattle.cast_driver.specs.declared.cast.Cast.{Cast}
use Rattle.history.specs.Arrays.{Known}
use Rattle.history.specs.Chunks.{Chunk}
use Rattle.history.specs.Content.{world_after}
use Rattle.history.specs.History.{History}
use Rattle.history.specs.Targets.{Cell}
use Rattle.history.specs.Writes.{Content, Put, put}
use Rattle.chunk_versions.specs.Marks.{casts_of}
use Rattle.chunk_versions.specs.declared.asked.AskedCell.{AskedCell}
use Rattle.version_laws.specs.Shown.{AreAskedOf, IsShownFrom}
use Rattle.version_store.specs.Ids.{IsChunkIn}
use Rattle.version_store.specs.Stores.{IsStoreOf, IsPartStoreOf}
use Rattle.version_store.specs.declared.store.VersionStore.{VersionStore}

-- the history that is kept shows the cells at a moment, from this one of it on
abbrev pub AreShownAt : VersionStore → List ℕ → List (List Cast) → List AskedCell → ℕ → ℕ → Type 0
AreShownAt s id casts asked from m =
    (history : History) (k : Known) (c : Chunk) (cell_of : AskedCell → Cell) → IsStoreOf history s → IsChunkIn history k c id → AreAskedOf history k c cell_of asked → from ≤ length history
    → IsShownFrom history casts cell_of asked from m

-- it shows them at no moment from this one on
abbrev pub AreNeverShown : VersionStore → List ℕ → List (List Cast) → List AskedCell → ℕ → Type 0
AreNeverShown s id casts asked from =
    (history : History) (k : Known) (c : Chunk) (cell_of : AskedCell → Cell) (m : ℕ) → IsStoreOf history s → IsChunkIn history k c id → AreAskedOf history k c cell_of asked
    → ¬ IsShownFrom history casts cell_of asked from m

-- the history's arrays with words put over them
abbrev pub content_with : History → List Put → Content
content_with history puts = fold put (world_after finmap.empty history) puts

-- a content shows each cell as it was asked for
abbrev pub AreShownIn : Content → List (List Cast) → (AskedCell → Cell) → List AskedCell → Type 0
AreShownIn content casts cell_of asked = AllByRecursion (λ (a : AskedCell). option_map (word_out (casts_of casts a)) (content (cell_of a)) ≡ Some a.word) asked

-- the answer tells whether the history's arrays with the words of its next commit so far show the cells
abbrev pub TellsShown : VersionStore → List ℕ → List (List Cast) → List AskedCell → Bool → Type 0
TellsShown s id casts asked answer =
    (history : History) (puts : List Put) (k : Known) (c : Chunk) (cell_of : AskedCell → Cell) → IsPartStoreOf history puts s → IsChunkIn history k c id → AreAskedOf history k c cell_of asked
    → IsTrue answer ↔ AreShownIn (content_with history puts) casts cell_of asked
