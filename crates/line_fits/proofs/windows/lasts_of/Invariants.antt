use Rattle.line_fits.proofs.Walls.{AreLastsSoFar}
use Rattle.line_fits.proofs.windows.lasts_of.Given as goal

-- the lines so far have their last numbers, and this is the next one's
abbrev pub invariant-loop-k : goal.invariant-loop-k
invariant-loop-k l = AreLastsSoFar l.said l.k l.seen l.lasts.items
