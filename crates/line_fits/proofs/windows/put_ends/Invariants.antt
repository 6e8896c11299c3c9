use Rattle.line_fits.proofs.Walls.{AreEndsFrom}
use Rattle.line_fits.proofs.windows.put_ends.Given as goal

-- the lines from here on have their ends, and this is that of those before by their own numbers
abbrev pub invariant-loop-k : goal.invariant-loop-k
invariant-loop-k l = AreEndsFrom l.fn.total l.said l.k l.end l.ends
