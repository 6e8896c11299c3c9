-- What a text is as a key.
use Rattle.std.specs.Prelude.{◌≡◌, ◌==◌, ◌-◌, ℕ, List, Option, Some, None, if◌then◌else◌}
use Rattle.std.specs.List.{slice_get}
use Rattle.history.specs.declared.event.Kind.{Kind}
use Rattle.history.specs.declared.event.Kind.TheVariants.{Opened, Done, Resized, Fault}
use Rattle.history.specs.declared.event.Event.{Event}
use Rattle.history.specs.History.{History}
use Rattle.history.specs.Arrays.{is_local}
use Rattle.history.specs.Chunks.{Chunk}
use Rattle.history.specs.Generations.{HasKey}

-- a chunk of this array has the key
pub record IsKeyIn (events : History) (key : List ℕ) (a : ℕ) : Type 0 where
  pub chunk : Chunk
  pub of_array : chunk.array ≡ a
  pub has : HasKey events chunk key

-- no chunk has the key
abbrev pub IsNobodys : History → List ℕ → Type 0
IsNobodys events key = (c : Chunk) → ¬ HasKey events c key

abbrev pub local_by : Kind → Option ℕ
local_by (Opened info) = if is_local info.home then Some info.number else None
local_by (Done line mode ops key) = None
local_by (Resized a shape) = None
local_by (Fault mount) = None

abbrev pub local_in : Option Event → Option ℕ
local_in None = None
local_in (Some e) = local_by e.kind

-- the local array that the event of this number opened, if it opened one
abbrev pub local_at : History → ℕ → Option ℕ
local_at events n = if n == 0 then None else local_in (slice_get events (n - 1))
