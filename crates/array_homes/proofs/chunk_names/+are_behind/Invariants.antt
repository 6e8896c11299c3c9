use Rattle.std.proofs.Common.{length}
use Rattle.array_homes.proofs.chunk_names.+are_behind.Given as goal

abbrev pub decreases-are_behind : goal.decreases-are_behind
decreases-are_behind l = length l.sizes.now
