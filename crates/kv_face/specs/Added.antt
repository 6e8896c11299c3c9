-- The scripts that were added to those in memory.
use Rattle.std.specs.Prelude.{ℕ, List, [], fold, drop, slice_get, Option, Some, None}
use Rattle.std.specs.FinMap as finmap
use Rattle.kv_face.specs.Store.{Contents}
use Rattle.kv_face.specs.declared.scripts.Script.{Script}

-- the map with a script, whose name may be there already
abbrev pub with_script : Contents → Script → Contents
with_script m s = finmap.insert m s.name s.bytes

-- the scripts under their names; of two with one name, the later
abbrev pub scripts_of : List Script → Contents
scripts_of scripts = fold with_script finmap.empty scripts

abbrev pub bytes_of : Option Script → List ℕ
bytes_of None = []
bytes_of (Some s) = s.bytes

-- what is left of the script at a place, behind its first bytes
abbrev pub left_of : List Script → Option ℕ → ℕ → List ℕ
left_of scripts None at = []
left_of scripts (Some place) at = drop at (bytes_of (slice_get scripts place))
