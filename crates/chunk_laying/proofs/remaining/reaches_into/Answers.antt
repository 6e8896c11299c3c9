use Rattle.std.proofs.Common.{arith}
use Rattle.chunk_laying.proofs.StartLaws.{starts-at}
use Rattle.chunk_laying.proofs.remaining.reaches_into.Goals as goal

pub overflow_mul-chunk : goal.overflow_mul-chunk
overflow_mul-chunk c =
    let low = starts-at c.args.chunk_shape.now c.args.chunk.now c.loop-k.k c.requires.starts c.requires.chunk_rank c.loop-k-test.true in
    omega arith
