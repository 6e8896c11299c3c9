use Rattle.std.proofs.Common.{◌≡◌, ◌+ℤ◌, ◌-ℤ◌, to_z, of_z, w64, ap, arith}
use Rattle.std.proofs.lemmas.Int.{ints}
use Rattle.index_intervals.specs.Bounds.{Bounds}
use Rattle.layer_join.proofs.sliding.index_behind.Goals as goal

pub overflow_add-result-2 : goal.overflow_add-result-2
overflow_add-result-2 c =
    let h = ap (λ (b : Bounds). b.hi) c.dim.view_is in
    let l = ap (λ (b : Bounds). b.lo) c.dim.view_is in
    let b = c.dim.invariant in
    let by : to_z w64 (of_z w64 (to_z w64 (of_z w64 c.args.next) -ℤ to_z w64 (of_z w64 c.dim.inside.lo))) ≡ c.args.next -ℤ c.dim.inside.lo = omega (arith, ints, b) in
    let end : to_z w64 (of_z w64 (to_z w64 (of_z w64 c.dim.inside.hi) +ℤ (c.args.next -ℤ c.dim.inside.lo))) ≡ c.dim.inside.hi +ℤ (c.args.next -ℤ c.dim.inside.lo) = omega (arith, ints, h, l, b) in
    rw (by, end) (omega (arith, ints, h, l))

pub returns : goal.returns
returns c =
    let h = ap (λ (b : Bounds). b.hi) c.dim.view_is in
    let l = ap (λ (b : Bounds). b.lo) c.dim.view_is in
    let b = c.dim.invariant in
    let by : to_z w64 (of_z w64 (to_z w64 (of_z w64 c.args.next) -ℤ to_z w64 (of_z w64 c.dim.inside.lo))) ≡ c.args.next -ℤ c.dim.inside.lo = omega (arith, ints, b) in
    let end : to_z w64 (of_z w64 (to_z w64 (of_z w64 c.dim.inside.hi) +ℤ (c.args.next -ℤ c.dim.inside.lo))) ≡ c.dim.inside.hi +ℤ (c.args.next -ℤ c.dim.inside.lo) = omega (arith, ints, h, l, b) in
    rw (by, end) (omega (arith, ints, h, l))
