-- The generations of the chunks that a transaction keeps.
use Rattle.commits.specs.declared.Mark.{Mark}
use Rattle.chunk_fetches.specs.declared.kept.Kept.{Kept}

-- a chunk that is kept as one of the footprint
abbrev pub mark_of_kept : Kept → Mark
mark_of_kept k = record { key = k.key; generation = k.snapshot.generation }
