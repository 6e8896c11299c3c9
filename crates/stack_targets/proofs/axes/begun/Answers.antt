use Rattle.std.proofs.Common.{◌∙◌, ◌+◌, ◌-◌, ◌/◌, sym, arith}
use Rattle.stack_targets.proofs.AxisLaws.{lack_from, lack_past}
use Rattle.stack_targets.proofs.axes.begun.Goals as goal

pub loop-low-init : goal.loop-low-init
loop-low-init c = record { few = omega arith; behind = lack_past c.args.layers.now c.args.index.now }

pub begins_by-requires : goal.begins_by-requires
begins_by-requires c = c.requires.below

pub loop-low-preserved-then-begins_by : goal.loop-low-preserved-then-begins_by
loop-low-preserved-then-begins_by c = c.loop-low.invariant

pub loop-low-preserved : goal.loop-low-preserved
loop-low-preserved c = record {
  few = omega (arith, c.loop-low.invariant.few, c.loop-low-test.true);
  behind = lack_from c.args.layers.now c.args.index.now c.args.axis (c.loop-low.low + (c.loop-low.high - c.loop-low.low) / 2) c.index-layers-middle.result c.requires c.index-layers-middle.is
      (sym c.begins_by.ensures ∙ c.if-begins_by.false);
}
