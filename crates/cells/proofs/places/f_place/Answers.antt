use Rattle.std.proofs.Common.{◌-◌, arith}
use Rattle.cells.proofs.PlaceLaws.{IsInside-length}
use Rattle.cells.proofs.PlaceSteps.{f_place-step, f_place-bound}
use Rattle.cells.proofs.places.f_place.Goals as goal

pub overflow_mul-place : goal.overflow_mul-place
overflow_mul-place c =
    let bound = f_place-bound c.args.shape.now c.args.index.now (c.loop-k.k - 1) c.loop-k.k c.loop-k.place (omega arith) c.requires.inside (omega arith) c.loop-k.invariant in
    omega arith

pub bounds-index-k : goal.bounds-index-k
bounds-index-k c = omega (arith, IsInside-length c.args.shape.now c.args.index.now c.requires.inside)

pub overflow_add-place : goal.overflow_add-place
overflow_add-place c =
    let bound = f_place-bound c.args.shape.now c.args.index.now (c.loop-k.k - 1) c.loop-k.k c.loop-k.place (omega arith) c.requires.inside (omega arith) c.loop-k.invariant in
    omega arith

pub loop-k-preserved : goal.loop-k-preserved
loop-k-preserved c =
    f_place-step c.args.shape.now c.args.index.now (c.loop-k.k - 1) c.loop-k.k c.loop-k.place (omega arith) c.requires.inside (omega arith) c.loop-k.invariant
