-- Chunks by their ids.
use Rattle.std.specs.Prelude.{◌≡◌, ℕ, List, ◌∷◌, Vec, Option, Some}
use Rattle.std.specs.Map.{lookup}
use Rattle.std.specs.Str.{bytes_eq}
use Rattle.std.specs.declared.alloc.Global.{Global}
use Rattle.history.specs.Arrays.{Known, known_after}
use Rattle.history.specs.Chunks.{Chunk}
use Rattle.history.specs.History.{History}
use Rattle.history.specs.Targets.{Cell}
use Rattle.chunk_versions.specs.Versions.{Versions}
use Rattle.version_laws.specs.Kept.{IsCellOf}

abbrev pub Id : Type 0
Id = Vec ℕ Global

-- the id of a chunk: its array's number, and behind it the chunk's index
abbrev pub id_of : Chunk → List ℕ
id_of c = c.array ∷ c.index

-- what a table has under an id
abbrev pub found : List (Id × Versions) → List ℕ → Option Versions
found entries id = lookup (λ (key : Id). bytes_eq id key.items) entries

-- a chunk of an array of the history, with this id, that has a cell
pub record IsChunkIn (history : History) (k : Known) (c : Chunk) (id : List ℕ) : Type 0 where
  pub named : id ≡ id_of c
  pub known : known_after history c.array ≡ Some k
  pub cell : Cell
  pub has : IsCellOf history c cell
