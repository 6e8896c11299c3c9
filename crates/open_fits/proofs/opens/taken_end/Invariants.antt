use Rattle.open_fits.proofs.Ends.{IsEndSoFar}
use Rattle.open_fits.proofs.opens.taken_end.Given as goal

abbrev pub invariant-loop-place : goal.invariant-loop-place
invariant-loop-place l = IsEndSoFar l.takings l.place l.end
