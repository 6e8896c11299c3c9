use Rattle.std.proofs.Common.{◌≡◌, ap, arith, to_z, of_z, w64}
use Rattle.std.proofs.lemmas.Int.{ints}
use Rattle.index_transform.specs.Bounds.{Bounds}
use Rattle.transform_composition.proofs.EdgeLemmas.{ends-both, ends-first}
use Rattle.transform_composition.proofs.inside.are_ends_inside.Goals as goal

pub returns-then-end_inside : goal.returns-then-end_inside
returns-then-end_inside c =
    let o : to_z w64 (of_z w64 c.args.offset) ≡ c.args.offset = omega (arith, ints) in
    let s : to_z w64 (of_z w64 c.args.stride) ≡ c.args.stride = omega (arith, ints) in
    let hi = ap (λ (b : Bounds). b.hi) c.dim.view_is in
    let lo = ap (λ (b : Bounds). b.lo) c.dim.view_is in
    let hi_is : to_z w64 (of_z w64 c.dim.inside.hi) ≡ c.args.dim.now.hi = omega (arith, ints) in
    let lo_is : to_z w64 (of_z w64 c.dim.inside.lo) ≡ c.args.dim.now.lo = omega (arith, ints) in
    ends-both c.args.dim.now c.args.outer.now c.args.offset c.args.stride c.end_inside-then-end_inside.result c.end_inside.result
    (rw (hi_is, lo_is) at c.if-dim.false) (rw (o, s, lo_is) at c.end_inside.ensures) c.if-end_inside.true (rw (o, s, hi_is) at c.end_inside-then-end_inside.ensures)

pub returns-else-end_inside : goal.returns-else-end_inside
returns-else-end_inside c =
    let o : to_z w64 (of_z w64 c.args.offset) ≡ c.args.offset = omega (arith, ints) in
    let s : to_z w64 (of_z w64 c.args.stride) ≡ c.args.stride = omega (arith, ints) in
    let hi = ap (λ (b : Bounds). b.hi) c.dim.view_is in
    let lo = ap (λ (b : Bounds). b.lo) c.dim.view_is in
    let hi_is : to_z w64 (of_z w64 c.dim.inside.hi) ≡ c.args.dim.now.hi = omega (arith, ints) in
    let lo_is : to_z w64 (of_z w64 c.dim.inside.lo) ≡ c.args.dim.now.lo = omega (arith, ints) in
    ends-first c.args.dim.now c.args.outer.now c.args.offset c.args.stride c.end_inside.result
    (rw (hi_is, lo_is) at c.if-dim.false) (rw (o, s, lo_is) at c.end_inside.ensures) c.if-end_inside.false
