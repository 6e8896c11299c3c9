use Rattle.std.proofs.Common.{◌+◌, ◌-◌, ◌/◌, arith}
use Rattle.rebase_writes.proofs.RisingLaws.{begun_front, begun_back}
use Rattle.rebase_writes.proofs.rising.begun.Goals as goal

pub loop-low-preserved-then-runs-middle : goal.loop-low-preserved-then-runs-middle
loop-low-preserved-then-runs-middle c = record {
  front = begun_front c.args.runs.now c.args.place (c.loop-low.low + (c.loop-low.high - c.loop-low.low) / 2) _ c.requires (omega (arith, c.loop-low.invariant.few, c.loop-low-test.true)) c.if-runs-middle.true;
  back = c.loop-low.invariant.back;
  few = c.loop-low.invariant.few;
  order = omega (arith, c.loop-low-test.true);
}

pub loop-low-preserved : goal.loop-low-preserved
loop-low-preserved c = record {
  front = c.loop-low.invariant.front;
  back = begun_back c.args.runs.now c.args.place (c.loop-low.low + (c.loop-low.high - c.loop-low.low) / 2) _ c.requires c.if-runs-middle.false;
  few = omega (arith, c.loop-low.invariant.few, c.loop-low-test.true);
  order = omega (arith, c.loop-low-test.true);
}
