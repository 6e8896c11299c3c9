use Rattle.std.proofs.Common.{◌<◌, ◌-◌, slice_index, arith}
use Rattle.std.proofs.Math.Nat.{mul_comm}
use Rattle.cells.proofs.Laws.{cell_count-pos}
use Rattle.chunk_laying.proofs.RowLaws.{row-most, rows-at, rows-same, rows-whole, whole-step}
use Rattle.chunk_laying.proofs.StartLaws.{starts-at}
use Rattle.chunk_laying.proofs.rows.rows_of.Goals as goal

pub reach_along-reach-requires : goal.reach_along-reach-requires
reach_along-reach-requires c =
    let low = starts-at c.args.chunk_shape.now c.args.chunk.now (c.loop-k.k - 1) c.requires.starts c.requires.chunk_rank (omega arith) in
    omega arith

pub cut_rows-requires-clause-row : goal.cut_rows-requires-clause-row
cut_rows-requires-clause-row c =
    let most = row-most c.args.chunk_shape.now (c.loop-k.k - 1) c.loop-k.k c.loop-k.len (omega arith) (omega arith) (cell_count-pos c.args.chunk_shape.now c.requires.chunks.least) c.loop-k.invariant.cells_are in
    omega (arith, most.1, c.cells_of-cells.ensures.value)

pub cut_rows-requires-clause-positive : goal.cut_rows-requires-clause-positive
cut_rows-requires-clause-positive c =
    let most = row-most c.args.chunk_shape.now (c.loop-k.k - 1) c.loop-k.k c.loop-k.len (omega arith) (omega arith) (cell_count-pos c.args.chunk_shape.now c.requires.chunks.least) c.loop-k.invariant.cells_are in
    most.0

pub returns-then-reach-chunk_shape : goal.returns-then-reach-chunk_shape
returns-then-reach-chunk_shape c =
    let cells = c.cells_of-cells.result in
    let above : 0 < cells = omega (arith, cell_count-pos c.args.chunk_shape.now c.requires.chunks.least, c.cells_of-cells.ensures.value) in
    rows-same c.args.chunk_shape.now c.args.shape.now c.args.chunk.now _ _ _ _ c.cut_rows.result.head c.cut_rows.result.count c.cut_rows.result.len c.cut_rows.result.inside c.cut_rows.ensures.head c.cut_rows.ensures.count c.cut_rows.ensures.len c.cut_rows.ensures.inside
    (rows-at c.args.chunk_shape.now c.args.shape.now c.args.chunk.now (c.loop-k.k - 1) c.loop-k.k c.loop-k.len c.reach_along-reach.result cells (omega arith) (omega arith) c.requires.shape_rank c.requires.chunk_rank c.cells_of-cells.ensures.value above
    c.reach_along-reach.ensures.cells c.reach_along-reach.ensures.most c.loop-k.invariant)

pub overflow_mul-len : goal.overflow_mul-len
overflow_mul-len c =
    let most = row-most c.args.chunk_shape.now (c.loop-k.k - 1) c.loop-k.k c.loop-k.len (omega arith) (omega arith) (cell_count-pos c.args.chunk_shape.now c.requires.chunks.least) c.loop-k.invariant.cells_are in
    omega (arith, most.1, mul_comm c.loop-k.len (slice_index c.args.chunk_shape.now (c.loop-k.k - 1)), c.requires.chunks.volume)

pub loop-k-preserved : goal.loop-k-preserved
loop-k-preserved c =
    whole-step c.args.chunk_shape.now c.args.shape.now c.args.chunk.now (c.loop-k.k - 1) c.loop-k.k c.loop-k.len c.reach_along-reach.result (omega arith) (omega arith) c.requires.shape_rank c.requires.chunk_rank
    c.reach_along-reach.ensures.cells c.if-reach-chunk_shape.false c.loop-k.invariant

pub returns : goal.returns
returns c =
    let cells = c.cells_of-cells.result in
    let above : 0 < cells = omega (arith, cell_count-pos c.args.chunk_shape.now c.requires.chunks.least, c.cells_of-cells.ensures.value) in
    rows-whole c.args.chunk_shape.now c.args.shape.now c.args.chunk.now c.loop-k.k cells c.loop-k.len c.loop-k-test.false c.cells_of-cells.ensures.value above c.loop-k.invariant
