use Rattle.std.proofs.Common.{length}
use Rattle.state_laws.proofs.index.+are_starts.Given as goal

abbrev pub decreases-are_starts : goal.decreases-are_starts
decreases-are_starts l = length l.sizes.now
