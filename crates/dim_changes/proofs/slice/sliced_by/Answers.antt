use Rattle.std.proofs.Common.{◌≡◌, refl, arith, to_z, of_z, w64}
use Rattle.std.proofs.lemmas.Int.{ints}
use Rattle.dim_changes.proofs.CutLemmas.{sliced_offset, sliced_step, sliced_by-is}
use Rattle.dim_changes.proofs.slice.sliced_by.Goals as goal

pub overflow_cast-result : goal.overflow_cast-result
overflow_cast-result c =
    let e : to_z w64 (of_z w64 c.args.part.step) ≡ c.args.part.step = omega (arith, ints) in
    let v = rw e at c.in-Ok.ensures.value in
    let o = sliced_offset c.args.dim.now c.args.part c.in-Ok.sliced v in
    omega (arith, ints, o, c.requires.step.above, c.requires.step.below)

pub returns-in-Ok : goal.returns-in-Ok
returns-in-Ok c =
    let e : to_z w64 (of_z w64 c.args.part.step) ≡ c.args.part.step = omega (arith, ints) in
    let v = rw e at c.in-Ok.ensures.value in
    let o = sliced_offset c.args.dim.now c.args.part c.in-Ok.sliced v in
    let s = sliced_step c.args.dim.now c.args.part c.in-Ok.sliced v in
    let p = c.requires.step.above in
    let q = c.requires.step.below in
    sliced_by-is c.args.dim.now c.args.part c.in-Ok.sliced c.in-Ok.sliced.interval _ _ v refl (omega (arith, ints)) (omega (arith, ints))
