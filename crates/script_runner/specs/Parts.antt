-- The mounts of a program.
use Rattle.std.specs.Prelude.{List, [], ◌∷◌, codes, Bool, true, false, Some, None}
use Rattle.std.specs.FinMap as finmap
use Rattle.kv_face.specs.Store.{opened}
use Rattle.kv_mounts.specs.Parts.{Part}

-- `memory`: empty, and all changes are made together
abbrev pub memory_part : Part
memory_part = record { name = codes "memory"; contents = Some finmap.empty; faults = 0; prefixes = [] ∷ []; names = None; standing = opened; change_count = Some 0 }

-- `file`: its contents aren't told, and changes are made one at a time
abbrev pub file_part : Part
file_part = record { name = codes "file"; contents = None; faults = 0; prefixes = []; names = None; standing = opened; change_count = None }

-- with or without files
abbrev pub parts_of : Bool → List Part
parts_of true = memory_part ∷ file_part ∷ []
parts_of false = memory_part ∷ []
