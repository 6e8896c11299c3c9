use Rattle.std.proofs.Common.{◌≡◌, ◌+◌, ◌*◌, length, take}
use Rattle.std.specs.List.{flat_map, range_with_len}
use Rattle.chunk_elements.specs.Rows.{moved_rows}
use Rattle.chunk_elements.proofs.putting.+put_rows.Given as goal

abbrev pub decreases-put_rows : goal.decreases-put_rows
decreases-put_rows l = length l.block.now

abbrev pub invariant-loop-i : goal.invariant-loop-i
invariant-loop-i l = take (l.i * l.part) l.out ≡ flat_map (λ k. moved_rows l.kind.dtype l.kind.big l.block_behind l.sizes_behind (l.step.stride * l.most) (l.step.from + k * l.step.stride) l.items) (range_with_len 0 l.i)
