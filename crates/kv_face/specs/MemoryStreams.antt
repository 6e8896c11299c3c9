-- What scripts and a sink in memory are, and what each of their calls makes of them.
use Rattle.std.specs.Prelude.{ℕ, ◌-◌, List, [], ◌++◌, length, take, drop, Bool, ◌&&◌, ◌||◌, ◌==◌, not, is_none, unwrap_or, if◌then◌else◌}
use Rattle.std.specs.FinMap as finmap
use Rattle.kv_face.specs.Store.{Contents}
use Rattle.kv_face.specs.Memory.{Calls, fails, called, counted}

-- bytes under names, what is left of the script that is read, the calls of each kind, and the faults up to 2^64-1
pub record ScriptsInMemory : Type 0 where
  pub scripts : Contents
  pub left : List ℕ
  pub selects : Calls
  pub nexts : Calls
  pub faults : ℕ

-- no calls, and none that is to fail
abbrev pub no_calls : Calls
no_calls = record { calls = 0; named = []; faults = 0 }

-- no scripts
abbrev pub no_scripts : ScriptsInMemory
no_scripts = record { scripts = finmap.empty; left = []; selects = no_calls; nexts = no_calls; faults = 0 }

-- a `select` fails where it was named, and of an unknown name
abbrev pub select_fails : ScriptsInMemory → List ℕ → Bool
select_fails s name = fails s.selects || is_none (finmap.get s.scripts name)

-- after a `select` all of the script is left, and nothing after one that failed
abbrev pub after_select : ScriptsInMemory → List ℕ → ScriptsInMemory
after_select s name = if select_fails s name
    then record s { left = []; selects = called s.selects; faults = counted s.faults }
    else record s { left = unwrap_or (finmap.get s.scripts name) []; selects = called s.selects }

-- after a `next` into a buffer of this size
abbrev pub after_next : ScriptsInMemory → ℕ → ScriptsInMemory
after_next s size = if fails s.nexts
    then record s { nexts = called s.nexts; faults = counted s.faults }
    else record s { left = drop size s.left; nexts = called s.nexts }

-- what was written, how many bytes more there is room for, the calls, and the faults up to 2^64-1
pub record SinkInMemory : Type 0 where
  pub bytes : List ℕ
  pub room : ℕ
  pub writes : Calls
  pub faults : ℕ

-- nothing was written
abbrev pub empty_sink : ℕ → SinkInMemory
empty_sink room = record { bytes = []; room = room; writes = no_calls; faults = 0 }

-- a `write` fails where it was named, and where there is a byte and no room
abbrev pub write_fails : SinkInMemory → List ℕ → Bool
write_fails s piece = fails s.writes || (s.room == 0 && not (length piece == 0))

-- after a `write` there is as much of the piece as there was room for
abbrev pub after_write : SinkInMemory → List ℕ → SinkInMemory
after_write s piece = if write_fails s piece
    then record s { writes = called s.writes; faults = counted s.faults }
    else record s { bytes = s.bytes ++ take s.room piece; room = s.room - length piece; writes = called s.writes }
