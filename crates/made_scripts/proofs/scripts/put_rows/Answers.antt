use Rattle.std.proofs.Common.{◌+◌, ◌*◌, arith}
use Rattle.std.proofs.lemmas.Result.{on_ok_weaker}
use Rattle.made_scripts.specs.Scripts.{row_text, rows_text}
use Rattle.made_scripts.proofs.Loops.{opened, item_put, list_put}
use Rattle.made_scripts.proofs.scripts.put_rows.Goals as goal

pub loop-place-init : goal.loop-place-init
loop-place-init c = record {
  within = omega arith;
  so_far = opened (λ k. row_text c.args.number (1000 * (c.args.first + 4 * k))) c.args.out.now.items c.put.new.out.items c.in_ok-put.ensures;
}

pub loop-place-preserved : goal.loop-place-preserved
loop-place-preserved c = record {
  within = omega (arith, c.loop-place-test.true);
  so_far = item_put (λ k. row_text c.args.number (1000 * (c.args.first + 4 * k))) c.loop-place.place _ c.loop-place.out.items c.put_comma.new.out.items c.put_row.new.out.items
      c.in_ok-put_comma.ensures c.in_ok-put_row.ensures c.loop-place.invariant.so_far;
}

pub returns : goal.returns
unfolding rows_text
returns c =
    on_ok_weaker c.put-2.result
    (λ is. list_put (λ k. row_text c.args.number (1000 * (c.args.first + 4 * k))) 25 c.loop-place.place c.args.out.now.items c.loop-place.out.items c.put-2.new.out.items
    (omega (arith, c.loop-place-test.false, c.loop-place.invariant.within)) is c.loop-place.invariant.so_far)
    c.put-2.ensures
