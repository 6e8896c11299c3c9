-- Chunks that were read and have later generations now.
use Rattle.std.specs.Prelude.{◌≡◌, ◌⊎◌, ◌<◌, ◌≤◌, ℕ, List, [], ◌∷◌, Option, Some, None}
use Rattle.history.specs.Chunks.{Chunk}
use Rattle.history.specs.Generations.{HasKey}
use Rattle.chunk_plans.specs.Fetches.{generation_in}
use Rattle.chunk_plans.specs.Log.{Log}
use Rattle.commits.specs.declared.late.Late.{Late}
use Rattle.chunk_plans.specs.declared.mark.Mark.{Mark}

-- this is the generation of the chunk that has the key, by the table
abbrev pub IsGenerationIn : Log → List ℕ → ℕ → Type 0
IsGenerationIn log key n = (c : Chunk) (has : HasKey log.events c key) → n ≡ generation_in log has.array key

-- the chunk has no later generation
pub record IsStill (log : Log) (m : Mark) : Type 0 where
  pub now : ℕ
  pub is : IsGenerationIn log m.key now
  pub not_later : now ≤ m.generation

-- it has a later one
pub record IsLate (log : Log) (m : Mark) (l : Late) : Type 0 where
  pub key : l.key ≡ m.key
  pub read : l.read ≡ m.generation
  pub later : m.generation < l.now
  pub is : IsGenerationIn log m.key l.now

-- of marks, the first whose chunk has a later generation, if there is one
abbrev pub IsFirstLate : Log → List Mark → Option Late → Type 0
IsFirstLate log [] None = Unit {0}
IsFirstLate log [] (Some l) = ⊥
IsFirstLate log (m ∷ marks) None = IsStill log m × IsFirstLate log marks None
IsFirstLate log (m ∷ marks) (Some l) = IsLate log m l ⊎ (IsStill log m × IsFirstLate log marks (Some l))
