use Rattle.std.proofs.Common.{arith}
use Rattle.cells.proofs.PlaceSteps.{sizes-pos}
use Rattle.cells.proofs.places.f_index.Goals as goal

pub nonzero_rem-out : goal.nonzero_rem-out
nonzero_rem-out c = sizes-pos c.args.shape.now c.loop-k.k (omega arith) c.loop-k-test.true

pub nonzero_div-rest : goal.nonzero_div-rest
nonzero_div-rest c = sizes-pos c.args.shape.now c.loop-k.k (omega arith) c.loop-k-test.true
