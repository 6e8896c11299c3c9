use Rattle.std.proofs.Common.{◌≡◌, ◌≤◌, ◌+◌, ◌*◌, ◌-◌, length, take, drop, ap, ◌∙◌, arith}
use Rattle.std.proofs.Math.Nat.{mul-le-mul_left}
use Rattle.std.proofs.lemmas.List.{length-drop, length-take-le}
use Rattle.chunk_elements.specs.Planes.{over_row}
use Rattle.chunk_elements.proofs.PlaneLaws.{over_more}
use Rattle.chunk_elements.proofs.plane.move_strip.Goals as goal

pub overflow_add-first : goal.overflow_add-first
overflow_add-first c =
    let most : c.args.plane.stride * c.args.strip.done ≤ c.args.plane.stride * c.args.plane.columns = mul-le-mul_left c.args.plane.stride (omega (arith, c.requires.within)) in
    omega (arith, most, c.requires.stride, c.requires.begin)

pub overflow_add-row : goal.overflow_add-row
overflow_add-row c =
    let most : c.args.plane.stride * c.args.strip.done ≤ c.args.plane.stride * c.args.plane.columns = mul-le-mul_left c.args.plane.stride (omega (arith, c.requires.within)) in
    let steps : c.args.plane.step * c.loop-i.i ≤ c.args.plane.step * c.args.plane.rows = mul-le-mul_left c.args.plane.step (omega arith) in
    omega (arith, most, steps, c.requires.stride, c.requires.step, c.requires.begin)

pub move_part-requires-clause-room : goal.move_part-requires-clause-room
move_part-requires-clause-room c =
    let most : c.args.plane.stride * (c.args.strip.done + c.args.strip.count) ≤ c.args.plane.stride * c.args.plane.columns = mul-le-mul_left c.args.plane.stride c.requires.within in
    omega (arith, most, c.requires.room c.loop-i.i c.loop-i-test.true)

pub loop-i-preserved : goal.loop-i-preserved
loop-i-preserved c =
    let width = c.args.plane.width in
    let at = c.loop-i.i * width in
    let up : width * (c.loop-i.i + 1) ≤ width * c.args.plane.rows = mul-le-mul_left width (omega arith) in
    let fits : at + width ≤ length c.loop-i.out = omega (arith, up, c.requires.full, c.loop-i.auto.out) in
    let one : at + width - at ≡ width = omega arith in
    let old : take (at + width - at) (drop at c.loop-i.out) ≡ take width (drop at c.args.out.now) = ap (λ n. take n (drop at c.loop-i.out)) one ∙ ap (take width) c.loop-i.invariant.rest in
    over_more _ width c.loop-i.i c.args.out.now c.loop-i.out c.move_part.new.out c.loop-i.invariant
    (c.move_part.ensures ∙ ap (over_row c.args.way.dtype c.args.way.big c.args.way.to c.args.strip.done c.args.strip.count c.args.plane.stride (c.args.plane.from + c.args.strip.done * c.args.plane.stride + c.loop-i.i * c.args.plane.step) c.args.elements.now) old)
    (c.move_part.auto.out ∙ length-take-le (at + width - at) (drop at c.loop-i.out) (rw length-drop (omega (arith, fits))))
    (omega (arith, fits))
