use Rattle.std.specs.Prelude.{All}
use Rattle.chunk_versions.specs.Marks.{HasCasts}
use Rattle.transcript_cases.proofs.versions.asked_of.Given as goal

-- the casts of those so far are among these
abbrev pub invariant-loop-cell : goal.invariant-loop-cell
invariant-loop-cell l = All (HasCasts l.casts) l.asked.items
