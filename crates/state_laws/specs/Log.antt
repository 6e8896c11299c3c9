-- What contracts see of the state.
use Rattle.std.specs.Prelude.{ℕ, List, Option, None}
use Rattle.std.specs.List.{slice_get}
use Rattle.std.specs.Option.{option_map_or}
use Rattle.chunk_cache.specs.Cache.{CacheList}
use Rattle.chunk_cache.specs.Snapshot.{SnapshotCells}
use Rattle.history.specs.History.{History}
use Rattle.history.specs.Generations.{Generations}
use Rattle.state_laws.specs.Recorded.{RecordsOf}

-- the events; a table of generations; the chunks that were used last; and by the arrays' numbers the cells of each that the run holds
pub record Log : Type 0 where
  pub events : History
  pub generations : Generations
  pub cache : CacheList
  pub locals : List (Option SnapshotCells)

abbrev pub log_of : RecordsOf → Log
log_of records = record { events = records.events; generations = records.generations; cache = records.cache; locals = records.locals }

-- what may be added without memory: so many events, and generations at these keys
pub record Spare : Type 0 where
  pub events : ℕ
  pub prepared : Generations

abbrev pub spare_of : RecordsOf → Spare
spare_of records = record { events = records.event_room; prepared = records.prepared }

-- the store, the log, and what may be added without memory
pub record StateOf (K : Type 0) : Type 0 where
  pub store : K
  pub log : Log
  pub spare : Spare

-- the cells that the run holds of an array, if it holds any
abbrev pub cells_held : Log → ℕ → Option SnapshotCells
cells_held log array = option_map_or (λ cells. cells) (slice_get log.locals array) None
