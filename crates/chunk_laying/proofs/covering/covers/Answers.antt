use Rattle.std.proofs.Common.{refl}
use Rattle.cells.specs.Places.{cell_count}
use Rattle.chunk_laying.specs.Rows.{is_place_inside}
use Rattle.chunk_laying.proofs.CoverLaws.{covered-more, covered-places, places-covered, row-fits, row-past, run-covered, not_both_ways}
use Rattle.chunk_laying.proofs.covering.covers.Goals as goal

pub returns-then-not-covers_range : goal.returns-then-not-covers_range
returns-then-not-covers_range c =
    let rows = c.rows_of-rows.result in
    let fits = row-fits c.loop-row.row rows.count rows.len (cell_count c.args.chunk_shape.now) c.loop-row-test.true c.rows_of-rows.ensures.all in
    not_both_ways c.covers_range.result _ _ c.covers_range.ensures c.if-not-covers_range.true
    (λ covered.
    run-covered c.args.chunk_shape.now c.args.shape.now c.args.chunk.now c.args.staged.now c.loop-row.row rows.len c.inside_of_row-inside.result c.inside_of_row-inside.ensures.most fits c.inside_of_row-inside.ensures.cells
    (covered-places c.args.chunk_shape.now c.args.shape.now c.args.chunk.now c.args.staged.now c.requires.chunk.shape_rank c.requires.chunk.chunk_rank covered))

pub loop-row-preserved : goal.loop-row-preserved
loop-row-preserved c =
    let rows = c.rows_of-rows.result in
    covered-more (is_place_inside c.args.chunk_shape.now c.args.shape.now c.args.chunk.now) c.args.staged.now c.loop-row.row rows.len c.inside_of_row-inside.result c.inside_of_row-inside.ensures.most c.inside_of_row-inside.ensures.cells c.loop-row.invariant
    (c.covers_range.ensures.0 c.if-not-covers_range.false)

pub returns : goal.returns
returns c =
    let rows = c.rows_of-rows.result in (
      λ holds.
          places-covered c.args.chunk_shape.now c.args.shape.now c.args.chunk.now c.args.staged.now c.requires.chunk.shape_rank c.requires.chunk.chunk_rank
          (λ p lt test. c.loop-row.invariant p (row-past c.loop-row.row rows.count rows.len (cell_count c.args.chunk_shape.now) p c.loop-row-test.false c.rows_of-rows.ensures.all lt) test),
      λ covered. refl,
    )
