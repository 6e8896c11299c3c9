use Rattle.std.proofs.Common.{length}
use Rattle.transcript_cut.proofs.plain.digits.Given as goal

abbrev pub decreases-loop-digit : goal.decreases-loop-digit
decreases-loop-digit l = length l.rest
