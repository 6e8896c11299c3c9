-- What is told of a store that lies in memory or in files.
use Rattle.kv_face.specs.Memory as memory
use Rattle.kv_face.specs.Store.{StoreSeen}
use Rattle.kv_mounts.specs.Files.{file_seen}
use Rattle.script_runner.specs.declared.store.Store.{Store}
use Rattle.script_runner.specs.declared.store.Store.TheVariants.{Memory, Files}

-- what such a store tells of itself
abbrev pub seen_of : {R F M : Type 0} → Store R F M → StoreSeen
seen_of (Memory s) = memory.seen_of s
seen_of (Files s) = file_seen s
