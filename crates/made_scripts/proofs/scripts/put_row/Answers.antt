use Rattle.std.proofs.Common.{◌+◌, arith, ap, ◌∙◌, ◌++◌}
use Rattle.std.specs.Prelude.{decimal}
use Rattle.std.proofs.lemmas.Result.{on_ok_weaker}
use Rattle.made_scripts.specs.Scripts.{row_text, number_at}
use Rattle.made_scripts.proofs.Loops.{opened, item_put, list_put}
use Rattle.made_scripts.proofs.scripts.put_row.Goals as goal

pub loop-place-init : goal.loop-place-init
loop-place-init c = record {
  within = omega arith;
  so_far = opened (λ k. decimal (number_at c.args.number (c.args.from + k))) c.args.out.now.items c.put.new.out.items c.in_ok-put.ensures;
}

pub loop-place-preserved : goal.loop-place-preserved
loop-place-preserved c = record {
  within = omega (arith, c.loop-place-test.true);
  so_far = item_put (λ k. decimal (number_at c.args.number (c.args.from + k))) c.loop-place.place _ c.loop-place.out.items c.put_comma.new.out.items c.put_number.new.out.items
      c.in_ok-put_comma.ensures (c.in_ok-put_number.ensures ∙ ap (λ n. c.put_comma.new.out.items ++ decimal n) c.number_at.ensures) c.loop-place.invariant.so_far;
}

pub returns : goal.returns
unfolding row_text
returns c =
    on_ok_weaker c.put-2.result
    (λ is. list_put (λ k. decimal (number_at c.args.number (c.args.from + k))) 1000 c.loop-place.place c.args.out.now.items c.loop-place.out.items c.put-2.new.out.items
    (omega (arith, c.loop-place-test.false, c.loop-place.invariant.within)) is c.loop-place.invariant.so_far)
    c.put-2.ensures
