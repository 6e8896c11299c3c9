use Rattle.transcript_fits.proofs.CountLaws.{AreCountsUpTo}
use Rattle.transcript_fits.proofs.judge.counts_of.Given as goal

-- they are known up to a number
abbrev pub invariant-loop-i : goal.invariant-loop-i
invariant-loop-i l = AreCountsUpTo l.events l.i l.count l.counts.items
