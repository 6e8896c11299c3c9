use Rattle.std.proofs.Common.{refl}
use Rattle.cells.specs.Places.{cell_count}
use Rattle.chunk_laying.specs.Rows.{is_place_inside}
use Rattle.chunk_laying.proofs.CoverLaws.{row-fits, row-past, not_both_ways}
use Rattle.chunk_laying.proofs.BareLaws.{bare-more, bare-places, places-bare, run-bare}
use Rattle.chunk_laying.proofs.within.stays_within.Goals as goal

pub returns-then-not-spares_range : goal.returns-then-not-spares_range
returns-then-not-spares_range c =
    let rows = c.rows_of-rows.result in
    let fits = row-fits c.loop-row.row rows.count rows.len (cell_count c.args.chunk_shape.now) c.loop-row-test.true c.rows_of-rows.ensures.all in
    not_both_ways c.spares_range.result _ _ c.spares_range.ensures c.if-not-spares_range.true
    (λ within.
    run-bare c.args.chunk_shape.now c.args.shape.now c.args.chunk.now c.args.staged.now c.loop-row.row rows.len c.inside_of_row-inside.result fits c.inside_of_row-inside.ensures.cells
    (bare-places c.args.chunk_shape.now c.args.shape.now c.args.chunk.now c.args.staged.now c.requires.chunk.shape_rank c.requires.chunk.chunk_rank within))

pub loop-row-preserved : goal.loop-row-preserved
loop-row-preserved c =
    let rows = c.rows_of-rows.result in
    bare-more (is_place_inside c.args.chunk_shape.now c.args.shape.now c.args.chunk.now) c.args.staged.now c.loop-row.row rows.len c.inside_of_row-inside.result c.inside_of_row-inside.ensures.cells c.loop-row.invariant
    (c.spares_range.ensures.0 c.if-not-spares_range.false)

pub returns : goal.returns
returns c =
    let rows = c.rows_of-rows.result in (
      λ holds.
          places-bare c.args.chunk_shape.now c.args.shape.now c.args.chunk.now c.args.staged.now c.requires.chunk.shape_rank c.requires.chunk.chunk_rank
          (λ p lt test. c.loop-row.invariant p (row-past c.loop-row.row rows.count rows.len (cell_count c.args.chunk_shape.now) p c.loop-row-test.false c.rows_of-rows.ensures.all lt) test),
      λ within. refl,
    )
