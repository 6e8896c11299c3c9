use Rattle.std.proofs.Common.{◌∙◌, map, sym}
use Rattle.stack_targets.specs.Axes.{dims_of}
use Rattle.stack_targets.proofs.AxisLaws.{axis_begins, axis_found, axis_next, axis_none}
use Rattle.stack_targets.proofs.axes.axis_of.Goals as goal

pub loop-axis-init : goal.loop-axis-init
loop-axis-init c = axis_begins c.args.rank (map dims_of c.args.layers.now)

pub loop-axis-preserved : goal.loop-axis-preserved
loop-axis-preserved c =
    c.loop-axis.invariant ∙ axis_next c.args.rank c.loop-axis.axis (map dims_of c.args.layers.now) c.loop-axis-test.true (sym c.rise.ensures ∙ c.if-rise.false)

pub returns-then-rise : goal.returns-then-rise
returns-then-rise c = sym (c.loop-axis.invariant ∙ axis_found c.args.rank c.loop-axis.axis (map dims_of c.args.layers.now) c.loop-axis-test.true (sym c.rise.ensures ∙ c.if-rise.true))

pub returns : goal.returns
returns c = sym (c.loop-axis.invariant ∙ axis_none c.args.rank c.loop-axis.axis (map dims_of c.args.layers.now) c.loop-axis-test.false)
