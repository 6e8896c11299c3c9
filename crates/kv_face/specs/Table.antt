-- What a table of keys and bytes holds.
use Rattle.std.specs.Prelude.{ℕ, List, [], ◌∷◌, String, string_bytes}
use Rattle.std.specs.declared.alloc.Global.{Global}
use Rattle.std.specs.FinMap as finmap
use Rattle.kv_face.specs.Store.{Contents}
use Rattle.kv_face.specs.declared.change.Change.{Change}
use Rattle.kv_face.specs.declared.table.Shared.{Shared}

-- keys, each with its bytes
abbrev pub Entries : Type 0
Entries = List (String Global × List ℕ)

-- the bytes under the keys
abbrev pub held_by : Entries → Contents
held_by [] = finmap.empty
held_by (e ∷ es) = finmap.insert (held_by es) (string_bytes e.0) e.1

-- the change that one with shared bytes is
abbrev pub change_of : Shared → Change
change_of s = record { key = s.key; bytes = s.bytes }
