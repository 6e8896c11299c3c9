-- What contracts see of a run's records.
use Rattle.std.specs.Prelude.{ℕ, List, [], ◌∷◌, Option, None}
use Rattle.std.specs.FinMap as finmap
use Rattle.std.specs.List.{slice_get}
use Rattle.std.specs.Option.{option_map_or}
use Rattle.chunk_cache.specs.Cache.{CacheList, after_drop}
use Rattle.chunk_cache.specs.Snapshot.{SnapshotCells}
use Rattle.history.specs.declared.event.Event.{Event}
use Rattle.history.specs.declared.event.Kind.TheVariants.{Done}
use Rattle.history.specs.History.{History}
use Rattle.history.specs.Generations.{Generations}
use Rattle.state_laws.specs.declared.commit.Commit.{Commit}

-- the events; a table of generations; the chunks that were used last; by the arrays' numbers the cells of each that the run holds; for
-- how many more events and arrays there is room, and for how many more events; and the keys at which a generation may be put without
-- memory
pub record RecordsOf : Type 0 where
  pub events : History
  pub generations : Generations
  pub cache : CacheList
  pub locals : List (Option SnapshotCells)
  pub room : ℕ
  pub event_room : ℕ
  pub prepared : Generations

-- the table of generations with one number at each of some keys
abbrev pub with_numbers : ℕ → Generations → List (List ℕ) → Generations
with_numbers n table [] = table
with_numbers n table (key ∷ keys) = with_numbers n (finmap.insert table key n) keys

-- what is kept under other keys than these
abbrev pub without_all : List (List ℕ) → List (List ℕ × SnapshotCells) → List (List ℕ × SnapshotCells)
without_all [] entries = entries
without_all (key ∷ keys) entries = without_all keys (after_drop key entries)

-- the cells that the run holds of an array, if it holds any
abbrev pub cells_held : RecordsOf → ℕ → Option SnapshotCells
cells_held records array = option_map_or (λ cells. cells) (slice_get records.locals array) None

abbrev pub done_event : ℕ → Commit → Event
done_event owner done = record { owner = owner; kind = Done done.line done.mode done.ops done.key }
