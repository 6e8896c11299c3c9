use Rattle.std.proofs.Common.{◌+◌, ◌*◌, length}
use Rattle.chunk_elements.specs.Rows.{items_of, words_of_rows}
use Rattle.chunk_elements.proofs.TakeLaws.{IsTaken}
use Rattle.chunk_elements.proofs.taking.+take_rows.Given as goal

abbrev pub decreases-take_rows : goal.decreases-take_rows
decreases-take_rows l = length l.block.now

abbrev pub invariant-loop-i : goal.invariant-loop-i
invariant-loop-i l = IsTaken (λ k. items_of l.kind.dtype (words_of_rows l.kind.dtype l.kind.big l.block_behind l.sizes_behind (l.step.stride * l.size) (l.step.from + k * l.step.stride) l.elements)) (length l.initial.out) l.i l.part l.out
