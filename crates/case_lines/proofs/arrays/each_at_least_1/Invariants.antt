use Rattle.std.proofs.Common.{◌≡◌, map, max, take}
use Rattle.case_lines.proofs.arrays.each_at_least_1.Given as goal

abbrev pub invariant-loop-size : goal.invariant-loop-size
invariant-loop-size l = l.chunk.items ≡ map (max 1) (take l.size-index l.shape)
