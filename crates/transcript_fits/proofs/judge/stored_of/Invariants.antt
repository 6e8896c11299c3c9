use Rattle.transcript_fits.proofs.StoredLaws.{AreStoredUpTo}
use Rattle.transcript_fits.proofs.judge.stored_of.Given as goal

-- of the first so many arrays it is told
abbrev pub invariant-loop-array : goal.invariant-loop-array
invariant-loop-array l = AreStoredUpTo l.openings.events l.array l.stored.items
