use Rattle.std.proofs.Common.{◌≡◌, length, ap, ◌∙◌, arith}
use Rattle.std.proofs.Math.Nat.{add-mul}
use Rattle.cells.specs.Places.{cell_count}
use Rattle.chunk_laying.specs.Rows.{is_place_inside}
use Rattle.chunk_laying.proofs.CoverLaws.{filled-more, row-fits}
use Rattle.chunk_laying.proofs.laying.fill_outside.Goals as goal

pub fill_run-requires-clause-to : goal.fill_run-requires-clause-to
fill_run-requires-clause-to c =
    let rows = c.rows_of-rows.result in
    let fits = row-fits c.loop-row.row rows.count rows.len (cell_count c.args.chunk_shape.now) c.loop-row-test.true c.rows_of-rows.ensures.all in
    let size : length c.args.cells.now.words ≡ cell_count c.args.chunk_shape.now = c.shape.ensures.well_formed.full ∙ ap cell_count c.requires.shape in
    omega (arith, fits, size, c.loop-row.invariant.size)

pub loop-row-preserved : goal.loop-row-preserved
loop-row-preserved c =
    let rows = c.rows_of-rows.result in
    let inv = c.loop-row.invariant in
    let run = c.fill_run.ensures in
    let grown = add-mul c.loop-row.row 1 rows.len in
    record {
      dtype = run.dtype ∙ inv.dtype;
      shape = run.shape ∙ inv.shape;
      size = run.size ∙ inv.size;
      done =
          filled-more (is_place_inside c.args.chunk_shape.now c.args.shape.now c.args.chunk.now) c.args.cells.now.words c.loop-row.cells.words c.fill_run.new.cells.words c.loop-row.row rows.len c.inside_of_row-inside.result c.args.fill
          c.inside_of_row-inside.ensures.most c.inside_of_row-inside.ensures.cells inv.done inv.behind run.filled run.before;
      behind = λ p le. run.behind p (omega (arith, grown, le)) ∙ inv.behind p (omega (arith, grown, le));
    }
