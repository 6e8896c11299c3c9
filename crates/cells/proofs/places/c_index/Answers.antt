use Rattle.std.proofs.Common.{◌-◌, arith}
use Rattle.cells.proofs.PlaceSteps.{c_index-step, c_index-whole, sizes-pos}
use Rattle.cells.proofs.places.c_index.Goals as goal

pub nonzero_rem-out : goal.nonzero_rem-out
nonzero_rem-out c = sizes-pos c.args.shape.now (c.loop-k.k - 1) (omega arith) (omega arith)

pub nonzero_div-rest : goal.nonzero_div-rest
nonzero_div-rest c = sizes-pos c.args.shape.now (c.loop-k.k - 1) (omega arith) (omega arith)

pub loop-k-preserved : goal.loop-k-preserved
loop-k-preserved c =
    c_index-step c.args.shape.now c.loop-k.out (c.loop-k.k - 1) c.loop-k.k c.args.place c.loop-k.rest (omega arith) (omega arith) (omega arith) (omega arith)
    c.loop-k.invariant.0 c.loop-k.invariant.1

pub returns : goal.returns
returns c =
    c_index-whole c.args.shape.now c.loop-k.out c.loop-k.k c.args.place c.loop-k-test.false c.requires.below c.loop-k.invariant.1
