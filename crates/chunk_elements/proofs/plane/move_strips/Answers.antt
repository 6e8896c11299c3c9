use Rattle.std.proofs.Common.{sym, arith}
use Rattle.chunk_elements.proofs.PlaneLaws.{front_more, over_rows-none}
use Rattle.chunk_elements.proofs.plane.move_strips.Goals as goal

pub loop-done-init : goal.loop-done-init
loop-done-init c = record {
  within = omega arith;
  over = sym (over_rows-none c.args.way.dtype c.args.way.big c.args.way.to c.args.plane.rows c.args.plane.width c.args.plane.step c.args.plane.stride c.args.plane.from c.args.elements.now c.args.out.now);
}

pub loop-done-preserved : goal.loop-done-preserved
loop-done-preserved c =
    front_more c.args.way.dtype c.args.way.big c.args.way.to c.args.plane.rows c.args.plane.width c.args.plane.columns c.args.plane.step c.args.plane.stride c.args.plane.from c.loop-done.done c.min-count.result c.args.elements.now c.args.out.now c.loop-done.out c.move_strip.new.out
    c.requires.full c.requires.fit c.loop-done.invariant (omega (arith, c.min-count.ensures, c.loop-done-test.true)) c.move_strip.ensures
