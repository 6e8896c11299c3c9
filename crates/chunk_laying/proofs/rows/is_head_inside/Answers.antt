use Rattle.std.proofs.Common.{◌<◌, ◌/◌, take, length, slice_index, arith}
use Rattle.chunk_laying.proofs.RowLaws.{head-step, step-inside, step-outside}
use Rattle.chunk_laying.proofs.StartLaws.{starts-at}
use Rattle.chunk_laying.proofs.rows.is_head_inside.Goals as goal

pub overflow_mul-chunk : goal.overflow_mul-chunk
overflow_mul-chunk c =
    let low = starts-at c.args.chunk_shape.now c.args.chunk.now c.loop-k.k c.requires.chunk.starts c.requires.chunk.chunk_rank (omega arith) in
    omega arith

pub nonzero_div-rest : goal.nonzero_div-rest
nonzero_div-rest c =
    let step = head-step c.args.head c.args.chunk_shape.now c.args.shape.now c.args.chunk.now c.args.row c.loop-k.k c.loop-k.below c.loop-k.rest c.requires.head c.requires.chunk.shape_rank c.requires.chunk.chunk_rank c.loop-k-test.true c.loop-k.invariant in
    step.positive

pub overflow_add-chunk : goal.overflow_add-chunk
overflow_add-chunk c =
    let within : c.loop-k.k < length c.args.chunk_shape.now = omega arith in
    let low = starts-at c.args.chunk_shape.now c.args.chunk.now c.loop-k.k c.requires.chunk.starts c.requires.chunk.chunk_rank within in
    let small = c.requires.chunk.chunks.greatest c.loop-k.k within in
    let step = head-step c.args.head c.args.chunk_shape.now c.args.shape.now c.args.chunk.now c.args.row c.loop-k.k c.loop-k.below c.loop-k.rest c.requires.head c.requires.chunk.shape_rank c.requires.chunk.chunk_rank c.loop-k-test.true c.loop-k.invariant in
    omega (arith, step.index)

pub returns-then-shape-k : goal.returns-then-shape-k
returns-then-shape-k c =
    let step = head-step c.args.head c.args.chunk_shape.now c.args.shape.now c.args.chunk.now c.args.row c.loop-k.k c.loop-k.below c.loop-k.rest c.requires.head c.requires.chunk.shape_rank c.requires.chunk.chunk_rank c.loop-k-test.true c.loop-k.invariant in
    step-outside (take c.args.head c.args.chunk_shape.now) (take c.args.head c.args.shape.now) (take c.args.head c.args.chunk.now) c.args.row c.loop-k.k c.loop-k.rest (c.loop-k.below / slice_index c.args.chunk_shape.now c.loop-k.k)
    (slice_index c.args.chunk_shape.now c.loop-k.k) (slice_index c.args.shape.now c.loop-k.k) (slice_index c.args.chunk.now c.loop-k.k) step c.if-shape-k.true

pub nonzero_rem-rest : goal.nonzero_rem-rest
nonzero_rem-rest c =
    let step = head-step c.args.head c.args.chunk_shape.now c.args.shape.now c.args.chunk.now c.args.row c.loop-k.k c.loop-k.below c.loop-k.rest c.requires.head c.requires.chunk.shape_rank c.requires.chunk.chunk_rank c.loop-k-test.true c.loop-k.invariant in
    step.positive

pub loop-k-preserved : goal.loop-k-preserved
loop-k-preserved c =
    let step = head-step c.args.head c.args.chunk_shape.now c.args.shape.now c.args.chunk.now c.args.row c.loop-k.k c.loop-k.below c.loop-k.rest c.requires.head c.requires.chunk.shape_rank c.requires.chunk.chunk_rank c.loop-k-test.true c.loop-k.invariant in
    step-inside (take c.args.head c.args.chunk_shape.now) (take c.args.head c.args.shape.now) (take c.args.head c.args.chunk.now) c.args.row c.loop-k.k c.loop-k.rest (c.loop-k.below / slice_index c.args.chunk_shape.now c.loop-k.k)
    (slice_index c.args.chunk_shape.now c.loop-k.k) (slice_index c.args.shape.now c.loop-k.k) (slice_index c.args.chunk.now c.loop-k.k) step c.if-shape-k.false
