use Rattle.std.proofs.Common.{◌≡◌, ◌+ℤ◌, to_z, of_z, w64, ap, arith}
use Rattle.std.proofs.lemmas.Int.{ints}
use Rattle.index_intervals.specs.Bounds.{Bounds}
use Rattle.layer_join.specs.Slid.{slid}
use Rattle.layer_join.proofs.sliding.slid.Goals as goal

pub invariant_of-result : goal.invariant_of-result
invariant_of-result c =
    let v = ap (λ (b : Bounds). b.lo) c.dim.view_is in
    let w = ap (λ (b : Bounds). b.hi) c.dim.view_is in
    let b = c.dim.invariant in
    let lo : to_z w64 (of_z w64 (to_z w64 (of_z w64 c.dim.inside.lo) +ℤ to_z w64 (of_z w64 c.args.by))) ≡ c.dim.inside.lo +ℤ c.args.by = omega (arith, ints, v, b) in
    let hi : to_z w64 (of_z w64 (to_z w64 (of_z w64 c.dim.inside.hi) +ℤ to_z w64 (of_z w64 c.args.by))) ≡ c.dim.inside.hi +ℤ c.args.by = omega (arith, ints, w, b) in
    rw (lo, hi) (record { lo_from = omega (arith, ints, v); lo_below = omega (arith, ints, v); hi_above = omega (arith, ints, w); hi_to = omega (arith, ints, w); ordered = omega (arith, ints, b) })

pub returns : goal.returns
returns c =
    let v = ap (λ (b : Bounds). b.lo) c.dim.view_is in
    let w = ap (λ (b : Bounds). b.hi) c.dim.view_is in
    let b = c.dim.invariant in
    let lo : to_z w64 (of_z w64 (to_z w64 (of_z w64 c.dim.inside.lo) +ℤ to_z w64 (of_z w64 c.args.by))) ≡ c.dim.inside.lo +ℤ c.args.by = omega (arith, ints, v, b) in
    let hi : to_z w64 (of_z w64 (to_z w64 (of_z w64 c.dim.inside.hi) +ℤ to_z w64 (of_z w64 c.args.by))) ≡ c.dim.inside.hi +ℤ c.args.by = omega (arith, ints, w, b) in
    rw (lo, hi) (ap (slid c.args.by) c.dim.view_is)
