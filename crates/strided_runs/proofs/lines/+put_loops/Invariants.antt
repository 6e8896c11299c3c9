use Rattle.std.proofs.Common.{◌≡◌, ◌+◌, ◌*◌, pos, ◌+ℤ◌, ◌*ℤ◌, length}
use Rattle.std.specs.List.{fold, flat_map, range_with_len}
use Rattle.strided_runs.specs.Loops.{looped}
use Rattle.strided_runs.specs.Growing.{grown}
use Rattle.strided_runs.proofs.lines.+put_loops.Given as goal

abbrev pub decreases-put_loops : goal.decreases-put_loops
decreases-put_loops l = length l.loops.now

-- the pairs of the turns so far are put
abbrev pub invariant-loop-k : goal.invariant-loop-k
invariant-loop-k l =
    l.growing
    ≡ fold grown l.initial.growing (flat_map (λ k. looped l.loops_behind (l.view + l.outer.view_step * k) (pos l.chunk +ℤ l.outer.chunk_step *ℤ pos k)) (range_with_len 0 l.k))
