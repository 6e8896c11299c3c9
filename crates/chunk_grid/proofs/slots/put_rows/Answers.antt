use Rattle.std.proofs.Common.{◌∙◌, ap, map, get_or, arith}
use Rattle.chunk_grid.specs.Slots.{together, put_all}
use Rattle.chunk_grid.proofs.SlotLaws.{nowhere, products-more}
use Rattle.chunk_grid.proofs.slots.put_rows.Goals as goal

pub loop-head-preserved : goal.loop-head-preserved
loop-head-preserved c = record {
  view = omega (arith, c.loop-head.invariant.view);
  value = c.in_ok-put_row.ensures.value
      ∙ ap (λ slots. put_all slots c.loop-head.view (map (together (get_or c.args.heads.now c.loop-head.head-index nowhere)) c.args.row.now)) c.loop-head.invariant.value
      ∙ products-more c.args.heads.now c.args.row.now c.args.slots.now c.loop-head.view c.loop-head.head-index nowhere c.loop-head-test.true c.loop-head.invariant.view;
  before = c.in_ok-put_row.ensures.before;
}
