use Rattle.std.proofs.Common.{◌≡◌, ◌∙◌, ◌<◌, ◌+◌, ap, sym, subst, length, arith}
use Rattle.chunk_grid.specs.Slots.{AreUpTo, together, put_at}
use Rattle.chunk_grid.proofs.SlotLaws.{nowhere, put_all-more, up_to-put}
use Rattle.chunk_grid.proofs.slots.put_row.Goals as goal

pub loop-j-preserved : goal.loop-j-preserved
loop-j-preserved c =
    let next : (c.args.view + c.loop-j.j) + 1 ≡ c.args.view + (c.loop-j.j + 1) = omega arith in
    let is = c.together.ensures in
    let within : c.together.result.number < length c.loop-j.slots = omega (arith, c.requires.numbers c.loop-j.j nowhere c.loop-j-test.true, ap (λ r. r.number) is) in
    record {
      value = c.in_ok-put.ensures ∙ (λ i. put_at (c.loop-j.invariant.value i) (c.args.view + c.loop-j.j) (is i))
          ∙ put_all-more (together c.args.head) c.args.row.now c.args.slots.now c.args.view c.loop-j.j nowhere c.loop-j-test.true;
      before = subst (λ n. AreUpTo n c.put.new.slots) next
          (subst (λ slots. AreUpTo ((c.args.view + c.loop-j.j) + 1) slots) (sym c.in_ok-put.ensures)
          (up_to-put c.loop-j.slots (c.args.view + c.loop-j.j) c.together.result within c.loop-j.invariant.before));
    }
