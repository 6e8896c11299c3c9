use Rattle.std.proofs.Common.{arith}
use Rattle.chunk_laying.proofs.StartLaws.{starts-at}
use Rattle.chunk_laying.proofs.remaining.is_shorter.Goals as goal

pub overflow_mul-end : goal.overflow_mul-end
overflow_mul-end c =
    let low = starts-at c.args.chunk_shape.now c.args.chunk.now c.loop-k.k c.requires.old.starts c.requires.old.chunk_rank c.loop-k-test.true in
    omega arith

pub overflow_add-end : goal.overflow_add-end
overflow_add-end c =
    let low = starts-at c.args.chunk_shape.now c.args.chunk.now c.loop-k.k c.requires.old.starts c.requires.old.chunk_rank c.loop-k-test.true in
    let small = c.requires.old.chunks.greatest c.loop-k.k c.loop-k-test.true in
    omega arith
