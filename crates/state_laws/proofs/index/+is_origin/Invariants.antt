use Rattle.std.proofs.Common.{length}
use Rattle.state_laws.proofs.index.+is_origin.Given as goal

abbrev pub decreases-is_origin : goal.decreases-is_origin
decreases-is_origin l = length l.shape.now
