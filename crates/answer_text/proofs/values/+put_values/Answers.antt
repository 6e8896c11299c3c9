use Rattle.std.proofs.Common.{get_or, length, arith, ap}
use Rattle.std.proofs.lemmas.List.{length-drop}
use Rattle.cells.specs.Places.{cell_count}
use Rattle.answer_text.specs.Nested.{values_text}
use Rattle.answer_text.proofs.Rows.{behind, row_more, rows_put}
use Rattle.answer_text.proofs.values.+put_values.Goals as goal

pub loop-done-init : goal.loop-done-init
loop-done-init t c = record {
  less = omega arith;
  so_far = rows_put (values_text c.args.dtype (behind c.args.shape.now)) (cell_count (behind c.args.shape.now)) (get_or c.args.shape.now 0 0) c.args.words.now
      c.args.out.now.items c.put.new.out.items c.in_ok-put-in-len1-up.ensures;
}

pub loop-done-preserved : goal.loop-done-preserved
loop-done-preserved t c = record {
  less = omega (arith, ap length c.split_at.ensures.back, length-drop c.min.result c.loop-done.rest.now, c.loop-done.invariant.less);
  so_far = row_more (values_text c.args.dtype (behind c.args.shape.now)) (cell_count (behind c.args.shape.now)) (get_or c.args.shape.now 0 0) c.loop-done.done
      c.row_len-row_len.result c.min.result _ c.loop-done.out.items c.put_comma.new.out.items c.put_values.new.out.items c.loop-done.rest.now c.args.words.now c.split_at.result.0.now c.split_at.result.1.now
      c.loop-done-test.true c.row_len-row_len.ensures c.loop-done.invariant.less c.min.ensures c.split_at.ensures.front c.split_at.ensures.back c.in_ok-put_comma-in-len1-up.ensures
      c.in_ok-put_values-in-len1-up.ensures c.loop-done.invariant.so_far;
}
