use Rattle.std.proofs.Common.{arith}
use Rattle.stack_targets.proofs.Named.{own_here, passed_layer}
use Rattle.stack_targets.proofs.naming.layer_of.Goals as goal

pub returns-then-rest-own : goal.returns-then-rest-own
returns-then-rest-own c = record {
  inside = omega (arith, c.loop-place-test.true, c.loop-place.auto.place-end);
  is = c.loop-place.invariant;
  own_leaf = λ d.
      own_here c.args.layers.now c.loop-place.place c.loop-place.rest c.leaves-own.result c.index-layers-place.result d (omega (arith, c.loop-place-test.true, c.loop-place.auto.place-end)) c.index-layers-place.is c.if-rest-own.true c.leaves-own.ensures;
}

pub loop-place-preserved : goal.loop-place-preserved
loop-place-preserved c =
    passed_layer c.args.layers.now c.loop-place.place c.args.leaf c.loop-place.rest c.leaves-own.result c.index-layers-place.result (omega (arith, c.loop-place-test.true, c.loop-place.auto.place-end)) c.index-layers-place.is c.leaves-own.ensures
    (omega (arith, c.if-rest-own.false)) c.requires.few c.loop-place.invariant
