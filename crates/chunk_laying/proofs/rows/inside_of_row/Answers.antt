use Rattle.chunk_laying.proofs.RowLaws.{row-inside, row-outside}
use Rattle.chunk_laying.proofs.rows.inside_of_row.Goals as goal

pub returns-then-is_head_inside-clause-cells : goal.returns-then-is_head_inside-clause-cells
returns-then-is_head_inside-clause-cells c =
    row-inside c.args.chunk_shape.now c.args.shape.now c.args.chunk.now c.args.rows.head c.args.rows.count c.args.rows.len c.args.rows.inside c.args.row c.is_head_inside.result c.requires.rows c.requires.row c.is_head_inside.ensures c.if-is_head_inside.true

pub returns-else-is_head_inside-clause-cells : goal.returns-else-is_head_inside-clause-cells
returns-else-is_head_inside-clause-cells c =
    row-outside c.args.chunk_shape.now c.args.shape.now c.args.chunk.now c.args.rows.head c.args.rows.count c.args.rows.len c.args.rows.inside c.args.row c.is_head_inside.result c.requires.rows c.requires.row c.is_head_inside.ensures c.if-is_head_inside.false
