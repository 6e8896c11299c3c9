use Rattle.std.proofs.Common.{◌≡◌, ◌∙◌, suc, ◌+◌, ◌<◌, length, drop, sym, ap, arith}
use Rattle.line_acts.proofs.WalkLaws.{stepped}
use Rattle.line_acts.proofs.cell_faults.walk_to.Goals as goal

pub loop-preserved : goal.loop-preserved
loop-preserved c =
    let cells = c.args.walk.now.cells in
    let here = c.loop-test.true in
    let below = c.requires.below in
    let low : c.loop.counter < length cells = omega (arith, here, below) in
    let step = stepped c.advance.result cells c.loop.walk.cells c.advance.new.self.cells c.loop.counter c.advance.new.out c.loop.out low c.loop.invariant.cells c.advance.ensures.cell in
    let next : suc c.loop.counter ≡ c.loop.counter + 1 = omega arith in
    record { rank = c.advance.auto.out ∙ c.loop.invariant.rank ∙ sym c.advance.ensures.rank; cells = step.0 ∙ ap (λ n. drop n cells) next }
