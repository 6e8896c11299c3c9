-- Keys, by which writes and marks stand in order.
use Rattle.std.specs.Prelude.{ℕ, List}
use Rattle.chunk_plans.specs.declared.write.ChunkWrite.{ChunkWrite}
use Rattle.chunk_plans.specs.declared.mark.Mark.{Mark}

-- the key of a chunk that is written
abbrev pub key_of_write : ChunkWrite → List ℕ
key_of_write w = w.key

-- the key of a chunk that was read
abbrev pub key_of_mark : Mark → List ℕ
key_of_mark m = m.key
