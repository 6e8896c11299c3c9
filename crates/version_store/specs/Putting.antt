-- Words that are put into a chunk.
use Rattle.std.specs.Prelude.{◌≡◌, ◌<◌, ◌≤◌, ℕ, ◌+◌, List, [], ◌∷◌, ◌++◌, length, Some, All, if◌then◌else◌}
use Rattle.std.specs.FinMap as finmap
use Rattle.std.specs.Str.{bytes_eq}
use Rattle.history.specs.Arrays.{Known}
use Rattle.history.specs.Chunks.{Chunk}
use Rattle.history.specs.History.{History}
use Rattle.history.specs.Legal.{IsLegal}
use Rattle.history.specs.Writes.{Put}
use Rattle.chunk_versions.specs.Moments.{newest}
use Rattle.chunk_versions.specs.Versions.{Versions, IsVersions}
use Rattle.version_laws.specs.Kept.{place_in, IsCellOf, ArePartVersionsOf}
use Rattle.version_store.specs.Ids.{Id, found, IsChunkIn}
use Rattle.version_store.specs.Openings.{IsKeptAs}
use Rattle.version_store.specs.Stores.{IsKeptUnder}
use Rattle.version_store.specs.declared.opening.Opening.{Opening}
use Rattle.version_store.specs.declared.placed.PlacedWord.{PlacedWord}
use Rattle.version_store.specs.declared.store.VersionStore.{VersionStore}

-- no word
abbrev pub no_word : PlacedWord
no_word = record { place = 0; word = 0 }

-- a word at a place is what is put at a cell of the chunk
pub record IsWordOf (history : History) (k : Known) (c : Chunk) (w : PlacedWord) (p : Put) : Type 0 where
  pub cell : IsCellOf history c p.0
  pub place : w.place ≡ place_in k p.0
  pub word : w.word ≡ p.1

-- so is each, one after another
abbrev pub AreWordsOf : History → Known → Chunk → List PlacedWord → List Put → Type 0
AreWordsOf history k c [] [] = Unit {0}
AreWordsOf history k c [] (p ∷ ps) = ⊥
AreWordsOf history k c (w ∷ words) [] = ⊥
AreWordsOf history k c (w ∷ words) (p ∷ ps) = IsWordOf history k c w p × AreWordsOf history k c words ps

-- the words are put at cells of a chunk by the event behind a legal history
pub record ArePutIn (history : History) (k : Known) (c : Chunk) (ps : List Put) (number : ℕ) (id : List ℕ) (words : List PlacedWord) : Type 0 where
  pub legal : IsLegal finmap.empty history
  pub next : number ≡ length history + 1
  pub chunk : IsChunkIn history k c id
  pub cells : AreWordsOf history k c words ps

-- versions of a chunk have room for the words
pub record HasRoom (number : ℕ) (words : List PlacedWord) (v : Versions) : Type 0 where
  pub newest : newest v.touches ≤ number
  pub places : All (λ (w : PlacedWord). w.place < v.size) words

-- so have those of the chunk with this id
abbrev pub HasRoomUnder : VersionStore → ℕ → List ℕ → List PlacedWord → Type 0
HasRoomUnder s number id words = (v : Versions) → IsKeptUnder s id v → IsVersions v → HasRoom number words v

-- versions of a chunk with words put: right with them, whatever history they were right of
abbrev pub AreOver : ℕ → List PlacedWord → Versions → Versions → Type 0
AreOver number words old new =
    (history : History) (k : Known) (c : Chunk) (puts ps : List Put) → IsLegal finmap.empty history → number ≡ length history + 1 → AreWordsOf history k c words ps
    → ArePartVersionsOf history k c puts old → ArePartVersionsOf history k c (puts ++ ps) new

-- a table behind the words that were put into one chunk
pub record HasPut (o : Opening) (number : ℕ) (id : List ℕ) (words : List PlacedWord) (old new : List (Id × Versions)) : Type 0 where
  pub before : Versions
  pub after : Versions
  pub valid : IsVersions before
  pub kept : IsKeptAs o (found old id) before
  pub over : AreOver number words before after
  pub table : (other : List ℕ) → found new other ≡ (if bytes_eq id other then Some after else found old other)
