use Rattle.std.proofs.Common.{◌≡◌, ◌≤◌, drop, subst, arith}
use Rattle.read_fits.specs.Rooms.{empty_lists}
use Rattle.read_fits.proofs.Rooms.{step_around}
use Rattle.read_fits.proofs.values.empty_lists.Goals as goal

pub loop-at-preserved : goal.loop-at-preserved
loop-at-preserved c =
    let within = c.loop-at.invariant.within in
    record {
      within = omega (arith, within);
      low = step_around c.args.shape.now c.loop-at.at c.loop-at.lists c.lists_around-lists.result c.loop-at-test.true within c.loop-at.invariant.low c.lists_around-lists.ensures;
    }

pub returns : goal.returns
returns c =
    let past = c.loop-at-test.false in
    let first : c.loop-at.at ≡ 0 = omega (arith, past) in
    subst (λ n. c.loop-at.lists ≤ empty_lists (drop n c.args.shape.now)) first c.loop-at.invariant.low
