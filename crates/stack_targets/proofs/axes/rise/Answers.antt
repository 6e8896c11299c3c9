use Rattle.std.proofs.Common.{◌≡◌, ◌<◌, ◌∙◌, ◌==◌, true, length, sym, arith}
use Rattle.std.proofs.lemmas.Bool.Decides.{nat_tests}
use Rattle.stack_targets.proofs.AxisLaws.{rise_begins, rise_ends, rise_more, rise_none, rise_stops}
use Rattle.stack_targets.proofs.axes.rise.Goals as goal

pub returns-then-is_empty : goal.returns-then-is_empty
returns-then-is_empty c =
    let z : (length c.args.layers.now == 0) ≡ true = sym c.is_empty.ensures ∙ c.if-is_empty.true in
    let none : length c.args.layers.now ≡ 0 = grind (arith, nat_tests, z) in
    sym (rise_none c.args.layers.now c.args.axis none)

pub loop-layer-init : goal.loop-layer-init
loop-layer-init c =
    let z = sym c.is_empty.ensures ∙ c.if-is_empty.false in
    let some : 0 < length c.args.layers.now = grind (arith, nat_tests, z) in
    rise_begins c.args.layers.now c.args.axis c.along-first.result c.index-layers-0.result some c.index-layers-0.is c.along-first.ensures

pub loop-layer-preserved : goal.loop-layer-preserved
loop-layer-preserved c =
    c.loop-layer.invariant
    ∙ rise_more c.args.layers.now c.args.axis c.along-first.result c.loop-layer.last c.along-next.result c.loop-layer.layer-index c.layer-item.result c.loop-layer-test.true c.layer-item.is c.along-next.ensures
    (sym c.begins_before.ensures ∙ c.if-begins_before.false)

pub returns-then-begins_before : goal.returns-then-begins_before
returns-then-begins_before c =
    sym (c.loop-layer.invariant
    ∙ rise_stops c.args.layers.now c.args.axis c.along-first.result c.loop-layer.last c.along-next.result c.loop-layer.layer-index c.layer-item.result c.loop-layer-test.true c.layer-item.is c.along-next.ensures
    (sym c.begins_before.ensures ∙ c.if-begins_before.true))

pub returns : goal.returns
returns c = c.begins_before-2.ensures ∙ sym (c.loop-layer.invariant ∙ rise_ends c.args.layers.now c.args.axis c.along-first.result c.loop-layer.last c.loop-layer.layer-index c.loop-layer-test.false)
